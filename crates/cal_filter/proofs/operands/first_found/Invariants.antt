use Rattle.std.proofs.Common.{◌≡◌, [], take}
use Rattle.std.specs.List.{filter_map}
use Rattle.cal_context.specs.Snapshots.{meaning}
use Rattle.cal_value.specs.Flat.{flat}
use Rattle.cal_filter.specs.Known.{sought}
use Rattle.cal_filter.specs.Latest.{AreReadyOperands}
use Rattle.cal_filter.specs.Sought.{value_sought}
use Rattle.cal_filter.proofs.operands.first_found.Given as goal

-- the seekers before this one find nothing
abbrev pub invariant-loop-place : goal.invariant-loop-place
invariant-loop-place l = AreReadyOperands l.context l.latest l.snapshot.imms.items
    l.seekers l.names
    → filter_map (λ s. value_sought (sought s) (flat (meaning l.context l.snapshot)))
    (take l.place l.seekers) ≡ []
