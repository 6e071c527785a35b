use Rattle.std.proofs.Common.{take}
use Rattle.cal_keys.specs.Takers.{IsPlaced}
use Rattle.cal_keys.proofs.takers.places_of.Given as goal

abbrev pub invariant-loop-place : goal.invariant-loop-place
invariant-loop-place l = record { placed : IsPlaced (take l.place l.names) l.places }
