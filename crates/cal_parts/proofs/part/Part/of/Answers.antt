use Rattle.std.proofs.Common.{arith}
use Rattle.cal_parts.proofs.Merging.{part_over-more}
use Rattle.cal_parts.proofs.part.Part.of.Goals as goal

pub loop-number-preserved : goal.loop-number-preserved
loop-number-preserved c =
    part_over-more c.args.kernel c.args.numbers.now c.loop-number.number-index _ c.loop-number.part c.add.new.self
    (omega arith) c.in_ok-add.ensures c.loop-number.invariant
