-- Reading digits one by one.
use Rattle.std.proofs.Common.{◌≡◌, ◌≤◌, ◌<◌, ◌+◌, ◌*◌, ◌^◌, ◌∙◌, ℕ, Bool, true, false, List, []}
use Rattle.std.proofs.Common.{◌∷◌, Some, None, length, get_or, take, refl, sym, ap, arith}
use Rattle.std.specs.Prelude.{◌&&◌, ◌==◌, not, if◌then◌else◌}
use Rattle.std.specs.Char.{is_digit, digit_value}
use Rattle.std.specs.List.{list_all}
use Rattle.std.specs.Fmt.{digits}
use Rattle.std.specs.Str.Parse.{AllDigits, digits_value}
use Rattle.std.proofs.lemmas.Fmt.{digits_is_IsNumeral}
use Rattle.std.specs.Cmp.{first_so, second_so}
use Rattle.std.proofs.Math.Nat.{pow-le-pow_right}
use Rattle.std.proofs.lemmas.Bool.Decides.{nat_tests}
use Rattle.std.proofs.lemmas.Int.Digits.{digits_value_more, digits_value-lt}
use Rattle.std.proofs.lemmas.List.Folds.{list_all_more}
use Rattle.std.proofs.lemmas.Str.Parse.{digits_value-take-le}
use borrow.Author.Tests.{lt-ltb, ltb-true}
use Rattle.cal_value.specs.Numerals.{at_most, is_numeral, number_of}

-- one digit more
pub digits_value-push :
    (base : ℕ) (ds : List ℕ) (i n b d : ℕ) → i < length ds → n ≡ digits_value base (take i ds)
    → b ≡ base → d ≡ digit_value (get_or ds i 0) → n * b + d ≡ digits_value base (take (i + 1) ds)
digits_value-push base ds i n b d inside is_n is_b is_d =
    (λ j. is_n j * is_b j + is_d j) ∙ sym (digits_value_more base ds i inside)

pub all_digits-push :
    (base : ℕ) (ds : List ℕ) (i : ℕ) → i < length ds
    → list_all (λ c. is_digit c base) (take i ds) ≡ true → digit_value (get_or ds i 0) < base
    → list_all (λ c. is_digit c base) (take (i + 1) ds) ≡ true
all_digits-push base ds i inside before digit =
    list_all_more (λ c. is_digit c base) ds i 0 inside
    ∙ (λ j. before j && lt-ltb (digit_value (get_or ds i 0)) base digit j)

-- a number that isn't too large, and one that is
pub at_most-fits : (most n : ℕ) → n ≤ most → at_most most (Some n) ≡ Some n
at_most-fits most n h = grind (arith, nat_tests)

pub at_most-none : (most n : ℕ) → most < n → at_most most (Some n) ≡ None
at_most-none most n h = grind (arith, nat_tests)

over : (b : Bool) (v most : ℕ) → most < v → at_most most (if b then Some v else None) ≡ None
over true v most h = at_most-none most v h
over false v most h = refl

-- a number whose first digits are too large is too large
pub at_most-over :
    (base most : ℕ) (ds : List ℕ) (i n : ℕ) → 1 ≤ base → n ≡ digits_value base (take i ds)
    → most < n → at_most most (number_of base ds) ≡ None
at_most-over base most ds i n low is_n large =
    let grows = digits_value-take-le base ds i low in
    let beyond : most < digits_value base ds = omega (arith, is_n, grows) in
    over (is_numeral base ds) (digits_value base ds) most beyond

pub AllDigits-from_all :
    (base : ℕ) (ds : List ℕ) → list_all (λ c. is_digit c base) ds ≡ true → AllDigits base ds
AllDigits-from_all base [] h = tt
AllDigits-from_all base (c ∷ cs) h =
    let first = first_so (is_digit c base) (list_all (λ b. is_digit b base) cs) h in
    let rest = second_so (is_digit c base) (list_all (λ b. is_digit b base) cs) h in
    (ltb-true (digit_value c) base first, AllDigits-from_all base cs rest)

pub all-from_AllDigits :
    (base : ℕ) (ds : List ℕ) → AllDigits base ds → list_all (λ c. is_digit c base) ds ≡ true
all-from_AllDigits base [] h = refl
all-from_AllDigits base (c ∷ cs) h =
    λ i. lt-ltb (digit_value c) base h.0 i && all-from_AllDigits base cs h.1 i

within :
    (b : Bool) (v most : ℕ) → (b ≡ true → v ≤ most)
    → at_most most (if b then Some v else None) ≡ (if b then Some v else None)
within true v most h = at_most-fits most v (h refl)
within false v most h = refl

-- so many digits write a number below the base's power
pub at_most-short :
    (base most places : ℕ) (ds : List ℕ) → 1 ≤ base → length ds ≤ places → base ^ places ≤ most + 1
    → at_most most (number_of base ds) ≡ number_of base ds
at_most-short base most places ds low short room =
    within (is_numeral base ds) (digits_value base ds) most
    (λ numeral.
    let all = second_so (not (length ds == 0)) (list_all (λ c. is_digit c base) ds) numeral in
    let digits = AllDigits-from_all base ds all in
    let more : base ^ length ds ≤ base ^ places = pow-le-pow_right low short in
    omega (arith, digits_value-lt base ds digits, more))

-- one digit or more write a number
pub number_of-numeral :
    (base : ℕ) (ds : List ℕ) → 0 < length ds → AllDigits base ds
    → number_of base ds ≡ Some (digits_value base ds)
number_of-numeral base ds h d =
    let some : not (length ds == 0) ≡ true = grind (arith, nat_tests) in
    (λ i. if some i && all-from_AllDigits base ds d i then Some (digits_value base ds) else None)

-- the digits of a number are its numeral
pub number_of-digits :
    (base n : ℕ) → 2 ≤ base → base ≤ 16 → n < base ^ 64
    → number_of base (digits base false n) ≡ Some n
number_of-digits base n low high fits =
    let is = digits_is_IsNumeral base false low high n fits in
    number_of-numeral base (digits base false n) is.0.0 is.0.1 ∙ ap Some is.1
