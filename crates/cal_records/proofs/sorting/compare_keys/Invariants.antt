use Rattle.std.proofs.Common.{◌≡◌, map, drop}
use Rattle.std.specs.Cmp.Lexicographic.{slice_cmp}
use Rattle.cal_records.specs.Ranks.{key_entry}
use Rattle.cal_records.proofs.sorting.compare_keys.Given as goal
use Rattle.cal_value.specs.Order.{entry_cmp, path_cmp}

-- what comes next decides
abbrev pub invariant-loop-place : goal.invariant-loop-place
invariant-loop-place l =
    path_cmp (map key_entry l.one) (map key_entry l.other)
    ≡ slice_cmp (λ k m. entry_cmp (key_entry k) (key_entry m))
    (drop l.place l.one) (drop l.place l.other)
