use Rattle.std.proofs.Common.{refl}
use Rattle.cal_context.specs.Snapshots.{meaning}
use Rattle.cal_write.proofs.MeasureLemmas.{row-measured}
use Rattle.cal_write.proofs.measurer.MeasurerTaker.take.Goals as goal

pub returns : goal.returns
returns c = λ rs had.
    row-measured c.args.context.now c.args.self.now c.count.new.self _
    (meaning c.args.context.now c.args.snapshot.now) c.in_ok-count.ensures.counted
    c.in_ok-count.ensures.rows refl refl c.in_ok-self.ensures rs had
