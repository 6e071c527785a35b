use Rattle.std.proofs.Common.{◌≡◌, false, take}
use Rattle.std.specs.Prelude.{slice_index_or}
use Rattle.std.specs.List.{list_any}
use Rattle.cal_table.proofs.shape.is_flagged_by_one.Given as goal

-- none of the value attributes so far is this one
abbrev pub invariant-loop-flags : goal.invariant-loop-flags
invariant-loop-flags l =
    list_any (λ flags. slice_index_or flags l.attribute false) (take l.flags-index l.values) ≡ false
