use Rattle.std.proofs.Common.{◌≡◌, None, replicate}
use Rattle.cal_keys.proofs.moving.nothing_moved.Given as goal

abbrev pub invariant-loop-place : goal.invariant-loop-place
invariant-loop-place l = l.moved.items ≡ replicate l.place None
