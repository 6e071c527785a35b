use Rattle.std.proofs.Common.{◌≡◌, drop}
use Rattle.cal_read.specs.Fields.{values_of}
use Rattle.cal_read.proofs.keys.field_with_key.Given as goal

abbrev pub invariant-loop-place : goal.invariant-loop-place
invariant-loop-place l = values_of l.key l.fields ≡ values_of l.key (drop l.place l.fields)
