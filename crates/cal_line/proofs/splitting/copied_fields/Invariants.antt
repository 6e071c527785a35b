use Rattle.std.proofs.Common.{◌≡◌, take}
use Rattle.cal_line.proofs.splitting.copied_fields.Given as goal

abbrev pub invariant-loop-place : goal.invariant-loop-place
invariant-loop-place l = l.copied ≡ take l.place l.fields
