use Rattle.std.proofs.Common.{◌≡◌, false, take, map}
use Rattle.cal_read.specs.Fields.{repeats_key}
use Rattle.cal_read.proofs.keys.repeats_key_of_many.Given as goal

abbrev pub invariant-loop-place : goal.invariant-loop-place
invariant-loop-place l = record {
  keys : l.keys ≡ map (λ f. f.key) (take l.place l.fields);
  none : repeats_key (take l.place l.fields) ≡ false;
}
