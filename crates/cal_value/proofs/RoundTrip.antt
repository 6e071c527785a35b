-- A printed value reads back as itself.
use Rattle.std.proofs.Common.{◌≡◌, ◌≤◌, ◌<◌, ◌+◌, ◌/◌, ◌%◌, ◌≢◌, ◌^◌, ◌∙◌, ℕ, ℤ, pos, negsuc, Bool}
use Rattle.std.proofs.Common.{true, false, List, [], ◌∷◌, ◌++◌, Some, None, length, append-nil}
use Rattle.std.proofs.Common.{lit≤, lit<, refl, sym, ap, arith}
use Rattle.std.specs.Prelude.{◌&&◌, ◌==◌, suc, zero, Option, codes, nat_eq, nat_le, neg_ℤ}
use Rattle.std.specs.Prelude.{unsigned_abs, unwrap_or, if◌then◌else◌}
use Rattle.std.specs.Fmt.{decimal, digits, digits_onto, digit_glyph, signed_decimal}
use Rattle.std.specs.List.{starts_with}
use Rattle.std.specs.Option.{option_map}
use Rattle.std.specs.Str.Parse.{AllDigits}
use Rattle.std.proofs.lemmas.Bool.{cond-false}
use Rattle.std.proofs.lemmas.Bool.Decides.{nat_tests}
use Rattle.std.proofs.lemmas.Fmt.{decimal_is_IsNumeral_wide}
use Rattle.std.proofs.lemmas.Str.Parse.{digit_from_value}
use Rattle.std.proofs.Math.Nat.{pow-suc}
use borrow.Author.Tests.{eqb-false}
use Rattle.cal_value.specs.Kinds.{kind_name, kind_named}
use Rattle.cal_value.specs.Values.{address_text, kind_of, value_text}
use Rattle.cal_value.specs.Decimals.{decimal_nanos, decimal_text, fixed_of, fixed_text, rest_text}
use Rattle.cal_value.specs.Numerals.{at_most, number_of, signed_of}
use Rattle.cal_value.specs.Reading.{IsInRange, IsReadable, address_of, int_of, value_of}
use Rattle.cal_value.specs.declared.kind.Kind as kinds
use Rattle.cal_value.specs.declared.kind.Kind.TheVariants as kind
use Rattle.cal_value.specs.declared.variant.Variant as variants
use Rattle.cal_value.specs.declared.variant.Variant.TheVariants as variant
use Rattle.cal_value.proofs.Numbers.{at_most-fits, number_of-digits}
use Rattle.cal_value.proofs.FixedRoundTrip.{decimal_nanos-text}

-- a number that prints in decimal reads back where it isn't too large
read-decimal :
    (most n : ℕ) → n ≤ most → most < 10 ^ 64 → at_most most (number_of 10 (decimal n)) ≡ Some n
read-decimal most n h room =
    let fits : n < 10 ^ 64 = omega arith in
    ap (at_most most) (number_of-digits 10 n (lit≤ tt) (lit≤ tt) fits) ∙ at_most-fits most n h

-- a numeral begins with no minus
unsigned :
    (t more : List ℕ) → 0 < length t → AllDigits 10 t
    → starts_with nat_eq (t ++ more) (codes "-") ≡ false
unsigned [] more h d = absurd (omega arith)
unsigned (c ∷ cs) more h d =
    let range = digit_from_value c d.0 in
    let other : nat_eq 45 c ≡ false = grind (arith, nat_tests) in
    λ i. other i && true

-- what reads a magnitude reads a number without a minus, and one with a minus
signed_of-pos :
    (magnitude : List ℕ → Option ℕ) (t : List ℕ) (n : ℕ) → n ≤ 2 ^ 86
    → starts_with nat_eq t (codes "-") ≡ false → magnitude t ≡ Some n
    → signed_of magnitude t ≡ Some (pos n)
signed_of-pos magnitude t n h none e =
    cond-false (starts_with nat_eq t (codes "-")) _ _ none
    ∙ ap (λ o. option_map pos (at_most (2 ^ 86) o)) e
    ∙ ap (option_map pos) (at_most-fits (2 ^ 86) n h)

signed_of-neg :
    (magnitude : List ℕ → Option ℕ) (t : List ℕ) (n : ℕ) → suc n ≤ 2 ^ 86
    → magnitude t ≡ Some (suc n) → signed_of magnitude (45 ∷ t) ≡ Some (negsuc n)
signed_of-neg magnitude t n h e =
    ap (λ o. option_map (λ k. neg_ℤ (pos k)) (at_most (2 ^ 86) o)) e
    ∙ ap (option_map (λ k. neg_ℤ (pos k))) (at_most-fits (2 ^ 86) (suc n) h)

int_of-signed : (n : ℤ) → unsigned_abs n ≤ 2 ^ 86 → int_of (signed_decimal n) ≡ Some n
int_of-signed (pos n) h =
    let room : n < 10 ^ 64 = omega arith in
    let is = decimal_is_IsNumeral_wide n room in
    let none =
    ap (λ t. starts_with nat_eq t (codes "-")) (sym (append-nil (decimal n)))
    ∙ unsigned (decimal n) [] is.0.0 is.0.1 in
    let number = number_of-digits 10 n (lit≤ tt) (lit≤ tt) room in
    signed_of-pos (number_of 10) (decimal n) n h none number
int_of-signed (negsuc n) h =
    let number = number_of-digits 10 (suc n) (lit≤ tt) (lit≤ tt) (omega arith) in
    signed_of-neg (number_of 10) (decimal (suc n)) n h number

fixed_of-text : (n : ℤ) → unsigned_abs n ≤ 2 ^ 86 → fixed_of (fixed_text n) ≡ Some n
fixed_of-text (pos n) h =
    let is = decimal_is_IsNumeral_wide (n / 1000000000) (omega arith) in
    let none = unsigned (decimal (n / 1000000000)) (rest_text (n % 1000000000)) is.0.0 is.0.1 in
    signed_of-pos decimal_nanos (decimal_text n) n h none (decimal_nanos-text n h)
fixed_of-text (negsuc n) h =
    signed_of-neg decimal_nanos (decimal_text (suc n)) n h (decimal_nanos-text (suc n) h)

longer :
    (k j n g : ℕ) (acc : List ℕ) (b : Bool) → (n / 16 == 0) ≡ b → n < 16 ^ suc j
    → (0 < j → n / 16 < 16 ^ j
    → length (digits_onto k 16 false (n / 16) (g ∷ acc)) ≤ j + length (g ∷ acc))
    → length (if b then g ∷ acc else digits_onto k 16 false (n / 16) (g ∷ acc)) ≤ suc j + length acc
longer k j n g acc true e fits rest = omega arith
longer k zero n g acc false e fits rest =
    let more : n / 16 ≢ 0 = eqb-false (n / 16) 0 e in
    let small : n < 16 = fits in
    absurd (omega arith)
longer k (suc j) n g acc false e fits rest =
    let one_more = pow-suc 16 (suc j) in
    let less : n / 16 < 16 ^ suc j = omega (arith, one_more) in
    let shorter = rest (omega arith) less in
    omega arith

-- a number below 16^j has at most j hexadecimal digits
length-digits_onto :
    (k j n : ℕ) (acc : List ℕ) → 0 < j → n < 16 ^ j
    → length (digits_onto k 16 false n acc) ≤ j + length acc
length-digits_onto zero j n acc h fits = omega arith
length-digits_onto (suc k) zero n acc h fits = absurd (omega arith)
length-digits_onto (suc k) (suc j) n acc h fits =
    longer k j n (digit_glyph false (n % 16)) acc (n / 16 == 0) refl fits
    (λ more less. length-digits_onto k j (n / 16) (digit_glyph false (n % 16) ∷ acc) more less)

length-hexadecimal : (a : ℕ) → a < 2 ^ 64 → length (digits 16 false a) ≤ 16
unfolding digits
length-hexadecimal a h = length-digits_onto 64 16 a [] (lit≤ tt) h

address_of-text : (a : ℕ) → a < 2 ^ 64 → address_of (address_text a) ≡ Some a
address_of-text a h =
    let short = length-hexadecimal a h in
    let fits : nat_le (length (digits 16 false a)) 16 ≡ true = grind (arith, nat_tests) in
    (λ i. if fits i then number_of 16 (digits 16 false a) else None)
    ∙ number_of-digits 16 a (lit≤ tt) (lit≤ tt) (omega arith)

kind_named-name : (k : kinds.Kind) → kind_named (kind_name k) ≡ Some k
kind_named-name kind.Usr = refl
kind_named-name kind.Int = refl
kind_named-name kind.Uint = refl
kind_named-name kind.Str = refl
kind_named-name kind.Addr = refl
kind_named-name kind.Double = refl
kind_named-name kind.Bool = refl
kind_named-name kind.TypeName = refl
kind_named-name kind.Ptr = refl

pub reads_back :
    (v : variants.Variant) → IsInRange v → IsReadable v
    → value_of (kind_of v) (value_text v) ≡ Some v
reads_back (variant.Int n) r h = ap (option_map variant.Int) (int_of-signed n h.small)
reads_back (variant.Uint n) r h =
    ap (option_map variant.Uint) (read-decimal 18446744073709551615 n (omega arith) (lit< tt))
reads_back (variant.Text t) r h = refl
reads_back (variant.Bool true) r h = refl
reads_back (variant.Bool false) r h = refl
reads_back (variant.Addr a) r h = ap (option_map variant.Addr) (address_of-text a r)
reads_back (variant.Kind k) r h = ap (option_map variant.Kind) (kind_named-name k)
reads_back (variant.Real t) r h =
    ap (λ o. Some (unwrap_or (option_map variant.Fixed o) (variant.Real t))) h.proper
reads_back (variant.Fixed n) r h =
    let real = variant.Real (fixed_text n) in
    ap (λ o. Some (unwrap_or (option_map variant.Fixed o) real)) (fixed_of-text n h.small)
reads_back (variant.Usr t) r h = refl
reads_back (variant.Ptr t) r h = refl
