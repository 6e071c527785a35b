use Rattle.std.proofs.Common.{◌≡◌, take}
use Rattle.cal_write.proofs.id_fields.are_same.Given as goal

-- the ids so far are the same
abbrev pub invariant-loop-place : goal.invariant-loop-place
invariant-loop-place l = take l.place l.ids ≡ take l.place l.others
