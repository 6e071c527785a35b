use Rattle.std.proofs.Common.{◌≡◌, map, drop}
use Rattle.std.specs.Cmp.Lexicographic.{slice_cmp}
use Rattle.cal_context.specs.Tree.{path_at}
use Rattle.cal_records.proofs.comparing.compare_paths.Given as goal
use Rattle.cal_value.specs.Order.{path_cmp}

-- what comes next decides
abbrev pub invariant-loop-place : goal.invariant-loop-place
invariant-loop-place l =
    slice_cmp path_cmp (map (path_at l.context) l.one) (map (path_at l.context) l.other)
    ≡ slice_cmp (λ n m. path_cmp (path_at l.context n) (path_at l.context m))
    (drop l.place l.one) (drop l.place l.other)
