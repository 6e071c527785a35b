use Rattle.std.proofs.Common.{sym}
use Rattle.cal_run.proofs.HeldLemmas.{read-past}
use Rattle.cal_lawful.proofs.order.op_line.Goals as goal

pub returns-in-None : goal.returns-in-None
returns-in-None c = sym (read-past c.args.text.now.marks.ops c.args.place 0 c.in-None.ensures)
