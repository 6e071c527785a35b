use Rattle.std.proofs.Common.{◌≡◌, false, take}
use Rattle.std.specs.List.{list_any}
use Rattle.cal_read.specs.Fields.{has_key}
use Rattle.cal_read.proofs.keys.has_key_before.Given as goal

abbrev pub invariant-loop-place : goal.invariant-loop-place
invariant-loop-place l = list_any (has_key l.key) (take l.place l.fields) ≡ false
