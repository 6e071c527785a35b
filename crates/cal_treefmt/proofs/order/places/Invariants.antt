use Rattle.std.proofs.Common.{length}
use Rattle.cal_treefmt.proofs.Ordering.{IsOrdering, to_do}
use Rattle.cal_treefmt.proofs.order.places.Given as goal

abbrev pub invariant-loop-place : goal.invariant-loop-place
invariant-loop-place l = IsOrdering l.context l.order.items l.left

abbrev pub decreases-loop-place : goal.decreases-loop-place
decreases-loop-place l = length (to_do l.context l.left)
