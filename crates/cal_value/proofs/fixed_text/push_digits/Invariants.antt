use Rattle.std.proofs.Common.{◌≡◌, ◌<◌, ◌-◌, ◌^◌, ◌++◌, length, take}
use Rattle.cal_value.specs.Decimals.{digits_behind}
use Rattle.cal_value.proofs.fixed_text.push_digits.Given as goal

-- the digits so far are there, and those of what is left are still to come
abbrev pub invariant-loop-place : goal.invariant-loop-place
invariant-loop-place l =
    record {
      worth : l.worth ≡ 10 ^ (9 - l._place);
      below : l.rest < l.worth;
      text :
          l.out ++ digits_behind (9 - l._place) l.rest
          ≡ l.initial.out ++ digits_behind 9 l.fn.rest;
      front : take (length l.initial.out) l.out ≡ l.initial.out;
    }
