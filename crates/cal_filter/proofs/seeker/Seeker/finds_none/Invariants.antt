use Rattle.std.proofs.Common.{◌≡◌, ◌<◌, None}
use Rattle.cal_context.specs.Tree.{path_at}
use Rattle.cal_context.specs.declared.numbers.NodeNumber.{NodeNumber}
use Rattle.cal_filter.specs.Known.{KnowsAttributes, sought}
use Rattle.cal_filter.specs.Sought.{last_sought}
use Rattle.cal_filter.proofs.seeker.Seeker.finds_none.Given as goal

-- nothing is sought on the paths of the nodes before this one
abbrev pub invariant-loop-place : goal.invariant-loop-place
invariant-loop-place l = KnowsAttributes l.context l.self → (n : NodeNumber) → n.0 < l.place
    → last_sought (sought l.self) (path_at l.context n) ≡ None
