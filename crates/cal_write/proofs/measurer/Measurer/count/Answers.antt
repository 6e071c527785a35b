use Rattle.std.proofs.Common.{◌+◌, ap, ◌∙◌}
use Rattle.cal_context.specs.Snapshots.{meaning}
use Rattle.cal_write.proofs.MeasureLemmas.{record-counted, with_text}
use Rattle.cal_write.proofs.measurer.Measurer.count.Goals as goal

pub returns-clause-counted : goal.returns-clause-counted
returns-clause-counted c =
    record-counted c.args.context.now c.args.self.now
    (record c.args.self.now { writer = c.write.new.self }) _ c.args.sort.now
    (meaning c.args.context.now c.args.snapshot.now) c.in_ok-write.ensures.written
    (ap (with_text c.write.new.self.nodes) c.clear.ensures)
    (c.in_ok-self.ensures ∙ ap (λ n. c.args.self.now.so_far.bytes + n) c.len-more.ensures)
