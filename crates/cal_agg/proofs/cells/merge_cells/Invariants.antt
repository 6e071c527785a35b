use Rattle.std.proofs.Common.{◌≡◌}
use Rattle.cal_agg.proofs.Merging.{merged_front}
use Rattle.cal_agg.proofs.cells.merge_cells.Given as goal

-- the cells before this place are merged
abbrev pub invariant-loop-place : goal.invariant-loop-place
invariant-loop-place l = l.cells ≡ merged_front l.place l.fn.cells l.fn.others
