use Rattle.std.proofs.Common.{◌∙◌}
use Rattle.cal_gen.proofs.BeginLines.{begin_line_at}
use Rattle.cal_gen.proofs.generating.begin_line.Goals as goal

pub returns : goal.returns
returns c = c.text_at.ensures ∙ begin_line_at c.args.value c.requires
