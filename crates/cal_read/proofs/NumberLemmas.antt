-- Numbers that are read digit by digit from a line.
use Rattle.std.proofs.Common.{◌≡◌, ◌<◌, ◌≤◌, ◌+◌, ◌*◌, ◌^◌, ℕ, Bool, true, false, ◌||◌, ◌&&◌, eqb, List, [], ◌∷◌, length, get_or, take, Some, None, sym, ap, ◌∙◌, subst, arith}
use Rattle.std.specs.Prelude.{Ok, pos, codes, nat_eq, not, ◌==◌, if◌then◌else◌}
use Rattle.std.specs.Char.{digit_value, is_digit}
use Rattle.std.specs.List.{between, list_all, starts_with}
use Rattle.std.specs.Option.{option_map}
use Rattle.std.specs.Str.Parse.{digits_value}
use Rattle.std.proofs.lemmas.Bool.{ne_eqb, cond-false}
use Rattle.std.proofs.lemmas.Bool.Decides.{nat_tests}
use Rattle.std.proofs.lemmas.Grind.{common_steps}
use Rattle.std.proofs.lemmas.Int.Digits.{digits_value_push}
use Rattle.std.proofs.lemmas.List.Edits.{between_more}
use Rattle.std.proofs.lemmas.List.Folds.{list_all-append}
use Rattle.std.proofs.lemmas.Slice.{between_from_start}
use Rattle.cal_value.proofs.Numbers.{at_most-fits}
use Rattle.cal_value.specs.Numerals.{at_most, number_of}
use Rattle.cal_value.specs.Reading.{int_of, uint_of}
use Rattle.cal_value.specs.declared.kind.Kind.TheVariants as kind
use Rattle.cal_value.specs.declared.variant.Variant.TheVariants as value
use Rattle.cal_read.specs.Fields.{id_of, or_fault}
use Rattle.cal_read.specs.Usual.{IsNumberAt, IsValueAt}
use Rattle.cal_read.specs.declared.kind.StreamKind.TheVariants as fault

-- a digit is written as it is
pub digit_plain : (b : ℕ) → 48 ≤ b → b ≤ 57 → (eqb b 10 || (eqb b 92 || eqb b 44 || eqb b 61)) ≡ false
digit_plain b low high = grind (arith, nat_tests)

digit_is : (b : ℕ) → 48 ≤ b → b ≤ 57 → digit_value b + 48 ≡ b
digit_is b low high = grind (arith, nat_tests)

-- one digit more
pub value_more : (line : List ℕ) (start place n d : ℕ) → start ≤ place → place < length line → 48 ≤ get_or line place 0 → get_or line place 0 ≤ 57
    → d + 48 ≡ get_or line place 0 → n ≡ digits_value 10 (between start place line) → n * 10 + d ≡ digits_value 10 (between start (place + 1) line)
value_more line start place n d order within low high is so_far =
    let own = digit_is (get_or line place 0) low high in
    let digit : d ≡ digit_value (get_or line place 0) = omega arith in
    (λ j. so_far j * 10 + digit j)
    ∙ sym (digits_value_push 10 (between start place line) (get_or line place 0))
    ∙ ap (digits_value 10) (sym (between_more line start place 0 order within))

is_digit_of : (b : ℕ) → 48 ≤ b → b ≤ 57 → is_digit b 10 ≡ true
is_digit_of b low high = grind (arith, nat_tests)

pub digits_more : (line : List ℕ) (start place : ℕ) → start ≤ place → place < length line → 48 ≤ get_or line place 0 → get_or line place 0 ≤ 57
    → list_all (λ c. is_digit c 10) (between start place line) ≡ true → list_all (λ c. is_digit c 10) (between start (place + 1) line) ≡ true
digits_more line start place order within low high so_far =
    ap (list_all (λ c. is_digit c 10)) (between_more line start place 0 order within)
    ∙ list_all-append (λ c. is_digit c 10) (between start place line) (get_or line place 0 ∷ [])
    ∙ (λ j. so_far j && (is_digit_of (get_or line place 0) low high j && true))

-- digits write their number
pub number_is : (text : List ℕ) (n : ℕ) → 0 < length text → list_all (λ c. is_digit c 10) text ≡ true → n ≡ digits_value 10 text → number_of 10 text ≡ Some n
number_is [] n some digits is = absurd (omega (arith, some))
number_is (c ∷ cs) n some digits is = grind (arith, digits, is)

-- ---- as values

uint_short : (text : List ℕ) (n : ℕ) → number_of 10 text ≡ Some n → n ≤ 2000000000000000000 → uint_of text ≡ Some n
uint_short text n is small = ap (at_most 18446744073709551615) is ∙ at_most-fits 18446744073709551615 n (omega arith)

-- ---- as ids

pub id_is : (line : List ℕ) (start end n : ℕ) → IsNumberAt line start end n → id_of (between start end line) ≡ Ok n
id_is line start end n h = ap (or_fault fault.BadNumber) (uint_short (between start end line) n h.is h.small)
