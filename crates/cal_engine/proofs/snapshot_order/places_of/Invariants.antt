use Rattle.std.proofs.Common.{◌≡◌, map, take}
use Rattle.cal_engine.proofs.snapshot_order.places_of.Given as goal

abbrev pub invariant-loop-row : goal.invariant-loop-row
invariant-loop-row l = l.places.items ≡ map (λ r. r.place) (take l.row-index l.ranked)
