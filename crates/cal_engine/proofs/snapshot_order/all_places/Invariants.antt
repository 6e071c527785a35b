use Rattle.std.proofs.Common.{◌≡◌, take}
use Rattle.cal_rowset.specs.NumberedRows.{in_order}
use Rattle.cal_engine.proofs.snapshot_order.all_places.Given as goal

-- the places so far are those of the first rows
abbrev pub invariant-loop-place : goal.invariant-loop-place
invariant-loop-place l = in_order l.rows l.places.items ≡ take l.place l.rows
