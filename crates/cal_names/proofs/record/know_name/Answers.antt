use Rattle.std.proofs.Common.{arith}
use Rattle.cal_names.proofs.record.know_name.Goals as goal

pub returns : goal.returns
returns c = record { text = c.know_text.ensures; long = c.requires; props = omega arith }
