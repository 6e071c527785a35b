-- A number of 64 bits that std reads where no plus stands first is the one that the table of kinds
-- has.
use Rattle.std.proofs.Common.{◌≡◌, ◌≢◌, ◌<◌, ◌^◌, ℕ, Bool, true, false, List, [], ◌∷◌, length, refl}
use Rattle.std.proofs.Common.{get_or, arith, sym, ◌∙◌}
use Rattle.std.specs.Prelude.{Option, Some, None, Result, Ok, Err, ◌&&◌, ◌==◌, not}
use Rattle.std.specs.Prelude.{if◌then◌else◌}
use Rattle.std.specs.Char.{digit_value, is_digit}
use Rattle.std.specs.List.{list_all}
use Rattle.std.specs.Result.{OkIff, result_ok}
use Rattle.std.specs.Str.Parse.{AllDigits, ParsesUnsigned, digits_value}
use Rattle.std.proofs.lemmas.Bool.Decides.{nat_tests}
use Rattle.std.proofs.lemmas.Str.Parse.{IsNumeralModel, parse_plain}
use Rattle.std.proofs.lemmas.Bool.{false≢true}
use borrow.Author.Tests.{lt-ltb}
use Rattle.cal_value.proofs.Numbers.{AllDigits-from_all}
use Rattle.cal_value.specs.Numerals.{at_most}
use Rattle.cal_value.specs.Reading.{uint_of}

all_from-AllDigits : (ds : List ℕ) → AllDigits 10 ds → list_all (λ c. is_digit c 10) ds ≡ true
all_from-AllDigits [] d = refl
all_from-AllDigits (c ∷ cs) d =
    λ j. lt-ltb (digit_value c) 10 d.0 j && all_from-AllDigits cs d.1 j

own : IsNumeralModel (λ ds. list_all (λ c. is_digit c 10) ds ≡ true) (digits_value 10)
own = record {
  to = AllDigits-from_all 10;
  from = all_from-AllDigits;
  same = λ ds d. refl;
}

-- the same over a length, a test of the digits, and their number
read_by : {E : Type 0} (n v : ℕ) (digits : Bool) (r : Result ℕ E)
    → OkIff r ((digits ≡ true) × (0 < n) × (v < 2 ^ 64)) v
    → result_ok r
    ≡ at_most 18446744073709551615 (if not (n == 0) && digits then Some v else None)
read_by n v true (Ok x) h = grind (arith, nat_tests)
read_by n v false (Ok x) h = absurd cc
read_by n v true (Err e) h = grind (arith, nat_tests)
read_by n v false (Err e) h = grind (arith, nat_tests)

pub uint_read : {E : Type 0} (text : List ℕ) (r : Result ℕ E) → ParsesUnsigned 64 10 text r
    → get_or text 0 0 ≢ 43 → result_ok r ≡ uint_of text
uint_read text r parsed plain =
    read_by (length text) (digits_value 10 text) (list_all (λ c. is_digit c 10) text) r
    (parse_plain own 64 text r parsed plain)

-- a text whose first byte was tested
pub no_plus : (text : List ℕ) (tested : Bool) → tested ≡ (get_or text 0 0 == 43) → tested ≡ false
    → get_or text 0 0 ≢ 43
no_plus text tested is fails plus =
    false≢true (sym fails ∙ is ∙ (λ j. plus j == 43))
