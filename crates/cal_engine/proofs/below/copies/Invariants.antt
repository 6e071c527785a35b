use Rattle.std.proofs.Common.{◌≡◌, replicate}
use Rattle.cal_engine.proofs.below.copies.Given as goal

abbrev pub invariant-loop-place : goal.invariant-loop-place
invariant-loop-place l = l.copies.items ≡ replicate l.place l.parts
