use Rattle.std.proofs.Common.{take}
use Rattle.cal_rowset.specs.NumberedRows.{in_order}
use Rattle.cal_engine.specs.SnapshotRanks.{AreRanked}
use Rattle.cal_engine.proofs.snapshot_order.ranked_places.Given as goal

-- the places so far
abbrev pub invariant-loop-place : goal.invariant-loop-place
invariant-loop-place l =
    AreRanked l.context l.first l.others l.rows (in_order l.rows (take l.place-index l.places)) l.ranked.items
