use Rattle.std.proofs.Common.{◌≡◌, ◌≤◌, take, true}
use Rattle.std.specs.Char.{is_digit}
use Rattle.std.specs.List.{list_all}
use Rattle.std.specs.Str.Parse.{digits_value}
use Rattle.cal_value.proofs.digits.read_number.Given as goal

-- the digits so far are digits, and write the number so far, which isn't too large
abbrev pub invariant-loop-byte : goal.invariant-loop-byte
invariant-loop-byte l =
    record {
      value : l.number ≡ digits_value l.base (take l.byte-index l.digits);
      numeral : list_all (λ c. is_digit c l.base) (take l.byte-index l.digits) ≡ true;
      small : l.number ≤ l.most;
    }
