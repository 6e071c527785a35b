-- Texts as they are written: they stay text, and no newline stands in them.
use Rattle.std.proofs.Common.{◌≡◌, ◌≢◌, ◌<◌, ◌≤◌, ◌^◌, ◌∙◌, ℕ, suc, ◌⊎◌, Bool, true, false, ◌||◌}
use Rattle.std.proofs.Common.{eqb, List, [], ◌∷◌, length, get_or, refl, sym, ap, subst, inl, inr}
use Rattle.std.proofs.Common.{lit<, lit≤, arith}
use Rattle.std.specs.Prelude.{if◌then◌else◌, decimal, Some}
use Rattle.std.proofs.Math.Utf8.{encode, encodes, scalar, scalars}
use Rattle.std.specs.Str.{IsUtf8, IsAscii}
use Rattle.std.proofs.lemmas.Bool.{and_from, and_parts, cases_lt}
use Rattle.std.proofs.lemmas.Bool.Decides.{nat_tests}
use Rattle.std.proofs.lemmas.Fmt.{IsAscii-decimal}
use Rattle.std.proofs.lemmas.List.{append-nil}
use Rattle.std.proofs.lemmas.List.Elements.{All-nil, All-cons, All-append}
use Rattle.std.proofs.lemmas.Str.{IsUtf8-append, IsUtf8-nil, IsUtf8-from_ascii, encode_ascii}
use Rattle.std.proofs.lemmas.Str.{inside_one}
use Rattle.std.proofs.lemmas.Str.Ascii.{IsAscii-nil, IsAscii-cons}
use Rattle.cal_line.specs.Escapes.{escaped, escaped_byte}
use Rattle.cal_line.specs.Lines.{HasNoNewline}
use Rattle.cal_line.proofs.EscapeSteps.{escaped-append}
use Rattle.cal_value.specs.Numerals.{at_most}
use Rattle.cal_value.specs.Reading.{uint_of}
use Rattle.cal_value.specs.declared.variant.Variant.TheVariants as value
use Rattle.cal_value.proofs.Numbers.{at_most-fits, number_of-digits}
use Rattle.cal_write.proofs.EscapeLemmas.{plain-value}

-- ---- no newline stands in what is written of a text

one_byte : (b : ℕ) → b ≢ 10 → HasNoNewline (b ∷ [])
one_byte b other = All-cons (λ c. c ≢ 10) b [] other (All-nil (λ c. c ≢ 10))

no_newline-byte : (b : ℕ) (n s : Bool) → eqb b 10 ≡ n
    → HasNoNewline (if n then 92 ∷ 110 ∷ [] else (if s then 92 ∷ b ∷ [] else b ∷ []))
no_newline-byte b true s is = All-cons (λ c. c ≢ 10) 92 (110 ∷ []) (λ e. cc)
    (one_byte 110 (λ e. cc))
no_newline-byte b false true is =
    let other : b ≢ 10 = grind (arith, nat_tests) in
    All-cons (λ c. c ≢ 10) 92 (b ∷ []) (λ e. cc) (one_byte b other)
no_newline-byte b false false is =
    let other : b ≢ 10 = grind (arith, nat_tests) in
    one_byte b other

pub no_newline-escaped : (text : List ℕ) → HasNoNewline (escaped text)
no_newline-escaped [] = All-nil (λ c. c ≢ 10)
no_newline-escaped (b ∷ text) =
    All-append (λ c. c ≢ 10) (escaped_byte b) (escaped text)
    (no_newline-byte b (eqb b 10) ((eqb b 92 || eqb b 44) || eqb b 61) refl)
    (no_newline-escaped text)

-- ---- what is written of a text is text

-- bytes above ASCII are written as they are
plain-high : (bytes : List ℕ) → ((k : ℕ) → k < length bytes → 128 ≤ get_or bytes k 0)
    → escaped bytes ≡ bytes
plain-high [] high = refl
plain-high (b ∷ bytes) high =
    let first : 128 ≤ b = high 0 (omega arith) in
    let plain : escaped_byte b ≡ b ∷ [] = grind (arith, nat_tests) in
    let rest = plain-high bytes (λ k h. high (suc k) (omega arith)) in
    rw (plain, rest) refl

ascii-byte : (b : ℕ) (n s : Bool) → b < 128
    → IsAscii (if n then 92 ∷ 110 ∷ [] else (if s then 92 ∷ b ∷ [] else b ∷ []))
ascii-byte b true s low = IsAscii-cons 92 (110 ∷ []) (lit< tt)
    (IsAscii-cons 110 [] (lit< tt) IsAscii-nil)
ascii-byte b false true low = IsAscii-cons 92 (b ∷ []) (lit< tt) (IsAscii-cons b [] low IsAscii-nil)
ascii-byte b false false low = IsAscii-cons b [] low IsAscii-nil

utf8-escaped_character : (c : ℕ) → scalar c ≡ true → IsUtf8 (escaped (encode c))
utf8-escaped_character c is = elim (cases_lt c 128) [
  | inl low ↦ rw (encode_ascii c low, append-nil (escaped_byte c))
      (IsUtf8-from_ascii (escaped_byte c)
      (ascii-byte c (eqb c 10) ((eqb c 92 || eqb c 44) || eqb c 61) low))
  | inr high ↦ rw (plain-high (encode c)
      (λ k h. above k h high (cases_lt (get_or (encode c) k 0) 128)))
      (c ∷ [], (and_from (scalar c) true is refl, append-nil (encode c)))
]
  where
    above : (k : ℕ) → k < length (encode c) → 128 ≤ c
        → (get_or (encode c) k 0 < 128) ⊎ (128 ≤ get_or (encode c) k 0)
        → 128 ≤ get_or (encode c) k 0
    above k h high (inr large) = large
    above k h high (inl small) =
        let one : c ≡ get_or (encode c) k 0 = inside_one c [] (encode c) k
        (sym (append-nil (encode c))) h small in
        absurd (omega (arith, one))

utf8-escaped_characters : (cs : List ℕ) → scalars cs ≡ true → IsUtf8 (escaped (encodes cs))
utf8-escaped_characters [] are = IsUtf8-nil
utf8-escaped_characters (c ∷ cs) are =
    let parts = and_parts (scalar c) (scalars cs) are in
    rw (escaped-append (encode c) (encodes cs))
    (IsUtf8-append (escaped (encode c)) (escaped (encodes cs)) (utf8-escaped_character c parts.0)
    (utf8-escaped_characters cs parts.1))

pub utf8-escaped : (text : List ℕ) → IsUtf8 text → IsUtf8 (escaped text)
utf8-escaped text is = subst (λ t. IsUtf8 (escaped t)) is.1.1 (utf8-escaped_characters is.0 is.1.0)

-- ---- decimals

-- a decimal is written as it is, is text, and reads back
pub plain-decimal : (n : ℕ) → escaped (decimal n) ≡ decimal n
plain-decimal n = plain-value (value.Uint n) (λ t e. cc) (λ t e. cc) (λ t e. cc) (λ t e. cc)

pub utf8-decimal : (n : ℕ) → n < 2 ^ 64 → IsUtf8 (decimal n)
utf8-decimal n small = IsUtf8-from_ascii (decimal n) (IsAscii-decimal n small)

pub uint_of-decimal : (n : ℕ) → n < 2 ^ 64 → uint_of (decimal n) ≡ Some n
uint_of-decimal n small =
    ap (at_most 18446744073709551615) (number_of-digits 10 n (lit≤ tt) (lit≤ tt) (omega arith))
    ∙ at_most-fits 18446744073709551615 n (omega arith)
