use Rattle.std.proofs.Common.{arith}
use Rattle.cal_script.proofs.NewlineCuts.{first_newline_near}
use Rattle.cal_script.proofs.newline.newline_near.Goals as goal

pub returns : goal.returns
returns c = first_newline_near c.args.bytes.now c.before_newline-place.result (omega arith) c.before_newline-place.ensures (omega arith)
