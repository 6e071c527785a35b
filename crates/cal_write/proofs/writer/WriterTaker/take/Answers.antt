use Rattle.cal_write.proofs.RecordLemmas.{row-taken}
use Rattle.cal_context.specs.Snapshots.{meaning}
use Rattle.cal_write.proofs.writer.WriterTaker.take.Goals as goal

pub returns-in-Ok-clause-taken : goal.returns-in-Ok-clause-taken
returns-in-Ok-clause-taken c = λ rs had.
    row-taken c.args.context.now c.args.self.now c.write.new.self (meaning c.args.context.now c.args.snapshot.now) rs
    c.if-self.false c.in-Ok.ensures.same c.in-Ok.ensures.written had
