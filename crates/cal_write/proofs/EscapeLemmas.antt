use Rattle.std.proofs.Common.{◌≡◌, ℕ, zero, suc, ◌/◌, ◌%◌, ◌<◌, ◌≤◌, Bool, true, false, List, [], ◌∷◌, refl, ap, ◌∙◌, lit<, decimal, ◌++◌, ◌+◌, ◌^◌, arith, eqb, if◌then◌else◌, ℤ, pos, negsuc}
use Rattle.std.specs.Fmt.{digits, digits_onto, digit_glyph, signed_decimal}
use Rattle.std.proofs.lemmas.Bool.Decides.{nat_tests}
use Rattle.cal_value.specs.Values.{value_text}
use Rattle.std.proofs.Math.Nat.{div-lt_iff_lt-mul, one-le-pow, pow-suc}
use Rattle.cal_value.specs.Decimals.{decimal_text, digits_behind, fixed_text, rest_text}
use Rattle.cal_value.specs.Kinds.{kind_name}
use Rattle.cal_value.specs.declared.kind.Kind as kinds
use Rattle.cal_value.specs.declared.kind.Kind.TheVariants as kind
use Rattle.cal_value.specs.declared.variant.Variant as variants
use Rattle.cal_value.specs.declared.variant.Variant.TheVariants as value
use Rattle.cal_line.specs.Escapes.{escaped, escaped_byte}
use Rattle.cal_line.proofs.EscapeSteps.{escaped-append}

-- a text of digits, of a base up to 16, is written as it is
glyph-plain : (d : ℕ) → d < 16 → escaped_byte (digit_glyph false d) ≡ digit_glyph false d ∷ []
glyph-plain d h = grind (arith, nat_tests)

onto-plain : (k base n : ℕ) (acc : List ℕ) → 0 < base → base ≤ 16 → escaped acc ≡ acc → escaped (digits_onto k base false n acc) ≡ digits_onto k base false n acc
onto-plain zero base n acc low high plain = plain
onto-plain (suc k) base n acc low high plain =
    by (eqb (n / base) 0) now (onto-plain k base (n / base) (digit_glyph false (n % base) ∷ acc) low high now)
  where
    now : escaped (digit_glyph false (n % base) ∷ acc) ≡ digit_glyph false (n % base) ∷ acc
    now = rw (glyph-plain (n % base) (omega arith), plain) refl

    by : (b : Bool) → escaped (digit_glyph false (n % base) ∷ acc) ≡ digit_glyph false (n % base) ∷ acc
        → escaped (digits_onto k base false (n / base) (digit_glyph false (n % base) ∷ acc)) ≡ digits_onto k base false (n / base) (digit_glyph false (n % base) ∷ acc)
        → escaped (if b then digit_glyph false (n % base) ∷ acc else digits_onto k base false (n / base) (digit_glyph false (n % base) ∷ acc))
        ≡ (if b then digit_glyph false (n % base) ∷ acc else digits_onto k base false (n / base) (digit_glyph false (n % base) ∷ acc))
    by true one more = one
    by false one more = more

digits-plain : (base n : ℕ) → 0 < base → base ≤ 16 → escaped (digits base false n) ≡ digits base false n
unfolding digits
digits-plain base n low high = onto-plain 64 base n [] low high refl

kind-plain : (k : kinds.Kind) → escaped (kind_name k) ≡ kind_name k
kind-plain kind.Usr = refl
kind-plain kind.Int = refl
kind-plain kind.Uint = refl
kind-plain kind.Str = refl
kind-plain kind.Addr = refl
kind-plain kind.Double = refl
kind-plain kind.Bool = refl
kind-plain kind.TypeName = refl
kind-plain kind.Ptr = refl

signed-plain : (n : ℤ) → escaped (signed_decimal n) ≡ signed_decimal n
signed-plain (pos n) = digits-plain 10 n (omega arith) (omega arith)
signed-plain (negsuc n) = ap (λ l. 45 ∷ l) (digits-plain 10 (suc n) (omega arith) (omega arith))

truth-plain : (b : Bool) → escaped (value_text (value.Bool b)) ≡ value_text (value.Bool b)
truth-plain true = refl
truth-plain false = refl

digit-plain : (d : ℕ) → d < 10 → escaped_byte (48 + d) ≡ (48 + d) ∷ []
digit-plain d h = grind (arith, nat_tests)

behind-plain : (places n : ℕ) → n < 10 ^ places → escaped (digits_behind places n) ≡ digits_behind places n
behind-plain zero n h = refl
behind-plain (suc places) zero h = refl
behind-plain (suc places) (suc n) h =
    let low = one-le-pow places 10 (lit< tt) in
    let small : suc n / 10 ^ places < 10 = (div-lt_iff_lt-mul low).1 (omega (arith, pow-suc 10 places)) in
    rw (digit-plain (suc n / 10 ^ places) small, behind-plain places (suc n % 10 ^ places) (omega (arith, low))) refl

rest-plain : (n : ℕ) → n < 1000000000 → escaped (rest_text n) ≡ rest_text n
rest-plain zero h = refl
rest-plain (suc n) h = ap (λ l. 46 ∷ l) (behind-plain 9 (suc n) h)

decimal-plain : (n : ℕ) → escaped (decimal_text n) ≡ decimal_text n
decimal-plain n =
    escaped-append (decimal (n / 1000000000)) (rest_text (n % 1000000000))
    ∙ (λ j. digits-plain 10 (n / 1000000000) (omega arith) (omega arith) j ++ rest-plain (n % 1000000000) (omega arith) j)

fixed-plain : (n : ℤ) → escaped (fixed_text n) ≡ fixed_text n
fixed-plain (pos n) = decimal-plain n
fixed-plain (negsuc n) = ap (λ l. 45 ∷ l) (decimal-plain (suc n))

-- a value that holds no text is written as its text
pub plain-value : (v : variants.Variant) → ((t : List ℕ) → v ≡ value.Text t → ⊥) → ((t : List ℕ) → v ≡ value.Real t → ⊥) → ((t : List ℕ) → v ≡ value.Usr t → ⊥) → ((t : List ℕ) → v ≡ value.Ptr t → ⊥)
    → escaped (value_text v) ≡ value_text v
plain-value (value.Int n) a b c d = signed-plain n
plain-value (value.Uint n) a b c d = digits-plain 10 n (omega arith) (omega arith)
plain-value (value.Text t) a b c d = absurd (a t refl)
plain-value (value.Bool b) x y c d = truth-plain b
plain-value (value.Addr n) a b c d = ap (λ l. 48 ∷ 120 ∷ l) (digits-plain 16 n (omega arith) (omega arith))
plain-value (value.Kind k) a b c d = kind-plain k
plain-value (value.Real t) a b c d = absurd (b t refl)
plain-value (value.Fixed n) a b c d = fixed-plain n
plain-value (value.Usr t) a b c d = absurd (c t refl)
plain-value (value.Ptr t) a b c d = absurd (d t refl)

-- a number is written in its digits
pub written-int : (v : variants.Variant) (n : ℤ) → v ≡ value.Int n → escaped (value_text v) ≡ signed_decimal n
written-int v n is = ap (λ w. escaped (value_text w)) is ∙ signed-plain n

pub written-uint : (v : variants.Variant) (n : ℕ) → v ≡ value.Uint n → escaped (value_text v) ≡ decimal n
written-uint v n is = ap (λ w. escaped (value_text w)) is ∙ digits-plain 10 n (omega arith) (omega arith)
