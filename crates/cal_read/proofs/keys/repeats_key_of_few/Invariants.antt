use Rattle.std.proofs.Common.{◌≡◌, false, take}
use Rattle.cal_read.specs.Fields.{repeats_key}
use Rattle.cal_read.proofs.keys.repeats_key_of_few.Given as goal

abbrev pub invariant-loop-place : goal.invariant-loop-place
invariant-loop-place l = repeats_key (take l.place l.fields) ≡ false
