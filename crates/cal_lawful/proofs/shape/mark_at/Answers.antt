use Rattle.std.proofs.Common.{sym}
use Rattle.cal_run.proofs.HeldLemmas.{read-past}
use Rattle.cal_lawful.specs.Broken.{no_mark}
use Rattle.cal_lawful.proofs.shape.mark_at.Goals as goal

pub returns-in-None : goal.returns-in-None
returns-in-None c = sym (read-past c.args.text.now.marks.rows c.args.row no_mark c.in-None.ensures)
