-- A value that a line says is said by its own text.
use Rattle.std.proofs.Common.{◌≡◌, ◌≢◌, ℕ, ℤ, pos, negsuc, ◌<◌, ◌≤◌, ◌^◌, Bool, true, false, ◌||◌}
use Rattle.std.proofs.Common.{cond, eqb, List, [], ◌∷◌, length, refl, sym, ap, subst, ◌∙◌, arith}
use Rattle.std.proofs.Common.{lit≤}
use Rattle.std.specs.Prelude.{Option, Some, None, Ok, Result, unwrap_or, unsigned_abs, codes, drop}
use Rattle.std.specs.Prelude.{not, ◌==◌, nat_eq, nat_le, if◌then◌else◌}
use Rattle.std.specs.List.{list_all, starts_with}
use Rattle.std.specs.Option.{ok_or, option_map}
use Rattle.std.specs.Cmp.{second_so}
use Rattle.std.specs.Str.{IsUtf8}
use Rattle.std.proofs.lemmas.Bool.{leb-true}
use Rattle.std.proofs.lemmas.Bool.Decides.{nat_tests}
use Rattle.std.proofs.lemmas.List.Elements.{All-nil, All-cons, All-append}
use Rattle.std.proofs.lemmas.Int.Digits.{digits_value-lt}
use Rattle.std.proofs.Math.Nat.{pow-le-pow_right}
use Rattle.std.specs.Char.{is_digit}
use Rattle.std.specs.Str.Parse.{digits_value}
use Rattle.cal_value.specs.Decimals.{fixed_of}
use Rattle.cal_value.specs.Kinds.{kind_named}
use Rattle.cal_value.specs.Numerals.{at_most, is_numeral, number_of}
use Rattle.cal_value.specs.Reading.{IsInRange, IsProper, IsSmall, address_of, int_of, truth_of}
use Rattle.cal_value.specs.Reading.{uint_of, value_of}
use Rattle.cal_value.specs.Values.{value_text}
use Rattle.cal_value.specs.declared.kind.Kind as kinds
use Rattle.cal_value.specs.declared.kind.Kind.TheVariants as kind
use Rattle.cal_value.specs.declared.variant.Variant as variants
use Rattle.cal_value.specs.declared.variant.Variant.TheVariants as variant
use Rattle.cal_value.proofs.Numbers.{AllDigits-from_all}
use Rattle.cal_value.proofs.RoundTrip.{reads_back}
use Rattle.cal_line.specs.FirstFault.{◌>>=◌}
use Rattle.cal_line.specs.Escapes.{escaped, escaped_byte}
use Rattle.cal_line.specs.Lines.{HasNoNewline}
use Rattle.cal_line.specs.Tokens.{spelled_text}
use Rattle.cal_line.proofs.TokenSteps.{bytes_of-characters, spelled_text-Spells}
use Rattle.cal_line.proofs.Written.{IsPiece-escaped}
use Rattle.cal_script.specs.declared.kind.ScriptKind.TheVariants.{BadEscape, BadValue}
use Rattle.cal_script.specs.Parts.{allowed, is_allowed, is_short_number, value_said}
use Rattle.cal_valid.proofs.Binds.{bind_ok, if_ok, ok_or_ok}
use Rattle.cal_valid.proofs.Values.{bounded, digits_of, hexadecimal_small, value_kind}
use Rattle.cal_spelling.specs.CanonicalText.{spelled}
use Rattle.cal_spelling.proofs.Utf8.{escaped_utf8, spelled_utf8}
use Rattle.cal_spelling.proofs.Texts.{address_utf8, decimal_utf8, fixed_utf8, signed_utf8}
use Rattle.cal_spelling.proofs.Texts.{truth_utf8}

-- a text that can stand in a line
pub record IsText (text : List ℕ) : Type 0 where
  pub utf8 : IsUtf8 text
  pub whole : HasNoNewline text

-- a value that its own text says
pub record IsSpoken (k : kinds.Kind) (value : variants.Variant) : Type 0 where
  pub said : value_said k (spelled value) ≡ Ok value
  pub text : IsText (spelled value)

-- ---- its text

no_line_byte : (b : ℕ) (newline special : Bool) → eqb b 10 ≡ newline
    → (eqb b 92 || eqb b 44 || eqb b 61) ≡ special → HasNoNewline (escaped_byte b)
no_line_byte b true special is also =
    let written : escaped_byte b ≡ 92 ∷ 110 ∷ [] = simp is in
    rw written (All-cons (λ byte. byte ≢ 10) 92 (110 ∷ []) (λ (same : 92 ≡ 10). omega arith)
    (All-cons (λ byte. byte ≢ 10) 110 [] (λ (same : 110 ≡ 10). omega arith)
    (All-nil (λ byte. byte ≢ 10))))
no_line_byte b false true is also =
    let written : escaped_byte b ≡ 92 ∷ b ∷ [] = simp (is, also) in
    let other : b ≢ 10 = grind (arith, nat_tests) in
    rw written (All-cons (λ byte. byte ≢ 10) 92 (b ∷ []) (λ (same : 92 ≡ 10). omega arith)
    (All-cons (λ byte. byte ≢ 10) b [] other (All-nil (λ byte. byte ≢ 10))))
no_line_byte b false false is also =
    let written : escaped_byte b ≡ b ∷ [] = simp (is, also) in
    let other : b ≢ 10 = grind (arith, nat_tests) in
    rw written (All-cons (λ byte. byte ≢ 10) b [] other (All-nil (λ byte. byte ≢ 10)))

escaped_whole : (text : List ℕ) → HasNoNewline (escaped text)
escaped_whole [] = All-nil (λ byte. byte ≢ 10)
escaped_whole (b ∷ text) =
    All-append (λ byte. byte ≢ 10) (escaped_byte b) (escaped text)
    (no_line_byte b (eqb b 10) (eqb b 92 || eqb b 44 || eqb b 61) refl refl)
    (escaped_whole text)

escaped_back : (text : List ℕ) → spelled_text (escaped text) ≡ Some text
escaped_back text = spelled_text-Spells (escaped text) text
    (_, IsPiece-escaped text, sym (bytes_of-characters text))

-- ---- what holds of a value that a text writes

-- numbers in their ranges, texts that are kept, and the text of the value
record IsReadOf (text : List ℕ) (value : variants.Variant) : Type 0 where
  range : IsInRange value
  small : IsSmall value
  proper : IsProper value
  utf8 : IsUtf8 (value_text value)

short_small : (n : ℤ) → is_short_number n ≡ true → unsigned_abs n ≤ 2 ^ 86
short_small (pos n) is = omega (arith, leb-true n 9223372036854775807 is)
short_small (negsuc n) is = omega (arith, leb-true n 9223372036854775807 is)

read_int : (text : List ℕ) (found : Option ℤ) (value : variants.Variant)
    → option_map variant.Int found ≡ Some value → is_allowed value ≡ true → IsReadOf text value
read_int text None value is fine = absurd cc
read_int text (Some n) value is fine =
    let same : variant.Int n ≡ value = cc in
    let small = short_small n (ap is_allowed same ∙ fine) in
    subst (IsReadOf text) same (record {
      range = tt;
      small = small;
      proper = tt;
      utf8 = signed_utf8 n small;
    })

read_uint : (text : List ℕ) (found : Option ℕ) (value : variants.Variant)
    → ((n : ℕ) → found ≡ Some n → n < 2 ^ 64) → option_map variant.Uint found ≡ Some value
    → IsReadOf text value
read_uint text None value few is = absurd cc
read_uint text (Some n) value few is =
    let same : variant.Uint n ≡ value = cc in
    let small = few n refl in
    subst (IsReadOf text) same (record {
      range = small;
      small = tt;
      proper = tt;
      utf8 = decimal_utf8 n small;
    })

read_address : (text : List ℕ) (found : Option ℕ) (value : variants.Variant)
    → ((n : ℕ) → found ≡ Some n → n < 2 ^ 64) → option_map variant.Addr found ≡ Some value
    → IsReadOf text value
read_address text None value few is = absurd cc
read_address text (Some n) value few is =
    let same : variant.Addr n ≡ value = cc in
    let small = few n refl in
    subst (IsReadOf text) same (record {
      range = small;
      small = tt;
      proper = tt;
      utf8 = address_utf8 n small;
    })

read_truth : (text : List ℕ) (found : Option Bool) (value : variants.Variant)
    → option_map variant.Bool found ≡ Some value → IsReadOf text value
read_truth text None value is = absurd cc
read_truth text (Some b) value is =
    let same : variant.Bool b ≡ value = cc in
    subst (IsReadOf text) same (record { range = tt; small = tt; proper = tt; utf8 = truth_utf8 b })

read_double : (text : List ℕ) (found : Option ℤ) (value : variants.Variant) → fixed_of text ≡ found
    → IsUtf8 text
    → Some (unwrap_or (option_map variant.Fixed found) (variant.Real text)) ≡ Some value
    → is_allowed value ≡ true → IsReadOf text value
read_double text None value real utf8 is fine =
    let same : variant.Real text ≡ value = cc in
    subst (IsReadOf text) same (record { range = tt; small = tt; proper = real; utf8 = utf8 })
read_double text (Some n) value real utf8 is fine =
    let same : variant.Fixed n ≡ value = cc in
    let small = short_small n (ap is_allowed same ∙ fine) in
    subst (IsReadOf text) same (record {
      range = tt;
      small = small;
      proper = tt;
      utf8 = fixed_utf8 n small;
    })

-- no value of these kinds may stand in a script
refused : (made value : variants.Variant) → Some made ≡ Some value → is_allowed made ≡ false
    → is_allowed value ≡ true → ⊥
refused made value is bad fine = let same : made ≡ value = cc in
    absurd (let wrong = sym bad ∙ ap is_allowed same ∙ fine in cc)

refused_kind : (found : Option kinds.Kind) (value : variants.Variant)
    → option_map variant.Kind found ≡ Some value → is_allowed value ≡ true → ⊥
refused_kind None value is fine = absurd cc
refused_kind (Some k) value is fine = refused (variant.Kind k) value is refl fine

read_of : (k : kinds.Kind) (text : List ℕ) (value : variants.Variant) → IsUtf8 text
    → value_of k text ≡ Some value → is_allowed value ≡ true → IsReadOf text value
read_of kind.Usr text value utf8 is fine = absurd (refused (variant.Usr text) value is refl fine)
read_of kind.Int text value utf8 is fine = read_int text (int_of text) value is fine
read_of kind.Uint text value utf8 is fine = read_uint text (uint_of text) value
    (λ n found. omega (arith, bounded 18446744073709551615 n (number_of 10 text) found)) is
read_of kind.Str text value utf8 is fine =
    let same : variant.Text text ≡ value = cc in
    subst (IsReadOf text) same (record { range = tt; small = tt; proper = tt; utf8 = utf8 })
read_of kind.Addr text value utf8 is fine = read_address text (address_of text) value
    (λ n found. hexadecimal_small (digits_of text) n (nat_le (length (digits_of text)) 16) refl
    found) is
read_of kind.Double text value utf8 is fine = read_double text (fixed_of text) value refl utf8 is
    fine
read_of kind.Bool text value utf8 is fine = read_truth text (truth_of text) value is
read_of kind.TypeName text value utf8 is fine = absurd
    (refused_kind (kind_named text) value is fine)
read_of kind.Ptr text value utf8 is fine = absurd (refused (variant.Ptr text) value is refl fine)

-- ---- the value again

said_again : (k : kinds.Kind) (value : variants.Variant) → value_of k (value_text value)
    ≡ Some value → is_allowed value ≡ true → value_said k (spelled value) ≡ Ok value
said_again k value back fine =
    ap (λ (found : Option (List ℕ)). ok_or found BadEscape
    >>= (λ text. ok_or (value_of k text) BadValue >>= allowed))
    (escaped_back (value_text value))
    ∙ ap (λ (found : Option variants.Variant). ok_or found BadValue >>= allowed) back
    ∙ ap (λ (fine : Bool). cond fine (Ok value) (Result.Err BadValue)) fine

allowed_same : (made value : variants.Variant) → allowed made ≡ Ok value → (is_allowed made ≡ true)
    × (made ≡ value)
allowed_same made value is =
    let passed = if_ok (is_allowed made) BadValue (Ok made) value is in
    let same : made ≡ value = (let e = passed.1 in cc) in (passed.0, same)

pub spoken : (k : kinds.Kind) (bytes : List ℕ) (value : variants.Variant) → IsUtf8 bytes
    → value_said k bytes ≡ Ok value → IsSpoken k value
spoken k bytes value utf8 is =
    let text = bind_ok (ok_or (spelled_text bytes) BadEscape)
    (λ text. ok_or (value_of k text) BadValue >>= (λ made. allowed made)) value is in
    let made = bind_ok (ok_or (value_of k text.0) BadValue) (λ made. allowed made) value text.2 in
    let passed = allowed_same made.0 value made.2 in
    let fine : is_allowed value ≡ true = sym (ap is_allowed passed.1) ∙ passed.0 in
    let wrote : value_of k text.0 ≡ Some value = ok_or_ok (value_of k text.0) BadValue made.0 made.1
    ∙ ap Some passed.1 in
    let texts = spelled_utf8 bytes text.0 utf8 (ok_or_ok (spelled_text bytes) BadEscape text.0
    text.1) in
    let read = read_of k text.0 value texts wrote fine in
    let again = reads_back value read.range (record { small = read.small; proper = read.proper }) in
    let back : value_of k (value_text value) ≡ Some value =
    subst (λ (l : kinds.Kind). value_of l (value_text value) ≡ Some value)
    (value_kind k text.0 value wrote) again in
    record {
      said = said_again k value back fine;
      text = record {
        utf8 = escaped_utf8 (value_text value) read.utf8;
        whole = escaped_whole (value_text value);
      };
    }
