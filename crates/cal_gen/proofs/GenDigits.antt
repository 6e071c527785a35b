-- Decimals in lines: they have no space, newline or backslash, and read back.
use Rattle.std.proofs.Common.{◌≡◌, ◌≢◌, ℕ, pos, ◌<◌, ◌≤◌, ◌^◌, Bool, true, false, cond, eqb, List, [], ◌∷◌, length, refl, sym, arith, lit<}
use Rattle.std.specs.Prelude.{Some, decimal}
use Rattle.std.specs.Str.Parse.{AllDigits}
use Rattle.std.proofs.lemmas.Bool.{ne_eqb, eqb-true}
use Rattle.std.proofs.lemmas.Bool.Decides.{nat_tests}
use Rattle.std.proofs.lemmas.Fmt.{decimal_is_IsNumeral, length-decimal-le}
use Rattle.std.proofs.lemmas.List.Elements.{All-nil, All-cons, All-head, All-tail, All-weaker}
use Rattle.std.proofs.lemmas.List.Splits.{slice_split_none}
use Rattle.std.proofs.lemmas.Str.Parse.{digit_from_value}
use Rattle.std.specs.List.{All}
use Rattle.cal_value.specs.Reading.{uint_of, value_of}
use Rattle.cal_value.specs.declared.kind.Kind.TheVariants as kind
use Rattle.cal_value.specs.declared.variant.Variant.TheVariants as variant
use Rattle.cal_value.proofs.RoundTrip.{reads_back}
use Rattle.cal_line.specs.Tokens.{Spells, byte_of, character, comma, equals, itself, nothing, spelled_text, token}
use Rattle.cal_line.proofs.TokenSteps.{spelled_text-Spells}
use Rattle.cal_script.specs.Lines.{is_word, words_of}
use Rattle.cal_script.proofs.Values.{uint_read}

-- a byte that stands for itself in a line: no space, newline or backslash
abbrev pub IsPlain : ℕ → Type 0
IsPlain byte = (33 ≤ byte) × (byte < 128) × (byte ≢ 92)

digits_plain : (ds : List ℕ) → AllDigits 10 ds → All IsPlain ds
digits_plain [] d = All-nil IsPlain
digits_plain (c ∷ cs) d =
    let range = digit_from_value c d.0 in
    All-cons IsPlain c cs (omega arith, omega arith, λ (same : c ≡ 92). omega arith) (digits_plain cs d.1)

pub decimal_plain : (n : ℕ) → n < 2 ^ 64 → All IsPlain (decimal n)
decimal_plain n small = digits_plain (decimal n) (decimal_is_IsNumeral n small).0.1

pub decimal_word : (n : ℕ) → n < 2 ^ 64 → is_word (decimal n) ≡ true
decimal_word n small =
    let some = (decimal_is_IsNumeral n small).0.0 in grind (arith, nat_tests)

pub decimal_short : (n : ℕ) → n < 10000 → length (decimal n) ≤ 4
decimal_short n small = length-decimal-le 4 n (lit< tt) (omega arith) (omega arith)

not_space : (byte : ℕ) → IsPlain byte → eqb byte 32 ≡ false
not_space byte plain = ne_eqb byte 32 (λ (same : byte ≡ 32). omega arith)

-- plain bytes are one word
pub plain_word : (word : List ℕ) → All IsPlain word → words_of word ≡ word ∷ []
plain_word word plain =
    slice_split_none (λ byte. eqb byte 32) word
    (All-weaker IsPlain (λ byte. eqb byte 32 ≡ false) not_space word plain)

byte_of-token : (b : ℕ) → byte_of (token b) ≡ b
byte_of-token b = by_cases (eqb b 44) (eqb b 61) refl refl
  where
    by_cases : (p q : Bool) → eqb b 44 ≡ p → eqb b 61 ≡ q → byte_of (cond p comma (cond q equals (character b))) ≡ b
    by_cases true q is_comma is = sym (eqb-true b 44 is_comma)
    by_cases false true is is_equals = sym (eqb-true b 61 is_equals)
    by_cases false false is other = refl

plain_spells : (text : List ℕ) → All IsPlain text → Spells text text
plain_spells [] plain = ([], nothing, refl)
plain_spells (b ∷ text) plain =
    let more = plain_spells text (All-tail IsPlain b text plain) in
    let first = All-head IsPlain b text plain in
    (token b ∷ more.0, itself first.2 more.1, (λ i. sym (byte_of-token b) i ∷ more.2 i))

-- plain bytes spell themselves
pub plain_text : (text : List ℕ) → All IsPlain text → spelled_text text ≡ Some text
plain_text text plain = spelled_text-Spells text text (plain_spells text plain)

pub decimal_uint : (n : ℕ) → n < 2 ^ 64 → uint_of (decimal n) ≡ Some n
decimal_uint n small =
    let back = reads_back (variant.Uint n) small (record { small = tt; proper = tt }) in
    sym (uint_read (decimal n) (variant.Uint n) back)

pub decimal_int : (n : ℕ) → n < 2 ^ 64 → value_of kind.Int (decimal n) ≡ Some (variant.Int (pos n))
decimal_int n small = reads_back (variant.Int (pos n)) tt (record { small = omega arith; proper = tt })
