use Rattle.cal_treefmt.proofs.Ordering.{AreParentsTo}
use Rattle.cal_treefmt.proofs.order.parents.Given as goal

-- the parents so far
abbrev pub invariant-loop-number : goal.invariant-loop-number
invariant-loop-number l = AreParentsTo l.context l.number l.parents.items
