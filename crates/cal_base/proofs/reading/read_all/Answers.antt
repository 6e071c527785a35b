use Rattle.cal_base.proofs.Taking.{ReadsAll-refused}
use Rattle.cal_base.proofs.reading.read_all.Goals as goal

pub returns-clause-over : goal.returns-clause-over
returns-clause-over g c = ReadsAll-refused c.args.limit _ c.take_all.result c.take_all.ensures.all
