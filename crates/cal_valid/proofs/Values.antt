-- The values that lines say: of which kind they are, and that they are in their ranges.
use Rattle.std.proofs.Common.{◌≡◌, ℕ, ℤ, ◌<◌, ◌≤◌, ◌^◌, Bool, true, false, cond, List, length, refl}
use Rattle.std.proofs.Common.{sym, ap, subst, ◌∙◌, arith, lit≤}
use Rattle.std.specs.Prelude.{Option, Some, None, Ok, codes, drop, nat_eq, nat_le, not, slice_get}
use Rattle.std.specs.Prelude.{unwrap_or, ◌==◌, if◌then◌else◌}
use Rattle.std.specs.Char.{is_digit}
use Rattle.std.specs.Cmp.{second_so}
use Rattle.std.specs.List.{list_all, starts_with}
use Rattle.std.specs.Option.{ok_or, option_map}
use Rattle.std.specs.Str.Parse.{digits_value}
use Rattle.std.proofs.lemmas.Bool.{leb-true}
use Rattle.std.proofs.lemmas.Bool.Decides.{nat_tests}
use Rattle.std.proofs.lemmas.Int.Digits.{digits_value-lt}
use Rattle.std.proofs.Math.Nat.{pow-le-pow_right}
use Rattle.cal_line.specs.FirstFault.{◌>>=◌}
use Rattle.cal_value.specs.Decimals.{fixed_of}
use Rattle.cal_value.specs.Kinds.{kind_named}
use Rattle.cal_value.specs.Numerals.{at_most, is_numeral, number_of}
use Rattle.cal_value.specs.Reading.{IsInRange, IsProper, address_of, int_of, truth_of, uint_of}
use Rattle.cal_value.specs.Reading.{value_of}
use Rattle.cal_value.specs.Values.{kind_of}
use Rattle.cal_value.specs.declared.attribute.Attribute.{Attribute}
use Rattle.cal_value.specs.declared.kind.Kind as kinds
use Rattle.cal_value.specs.declared.kind.Kind.TheVariants as kind
use Rattle.cal_value.specs.declared.variant.Variant as variants
use Rattle.cal_value.specs.declared.variant.Variant.TheVariants as variant
use Rattle.cal_value.proofs.Numbers.{AllDigits-from_all}
use Rattle.cal_line.specs.Tokens.{spelled_text}
use Rattle.cal_script.specs.declared.kind.ScriptKind.TheVariants.{BadEscape, BadValue, UnknownName}
use Rattle.cal_script.specs.Parts.{allowed, at_place, is_allowed, value_said}
use Rattle.cal_script.specs.Valid.{IsSaid}
use Rattle.cal_valid.proofs.Binds.{bind_ok, if_ok, ok_or_ok}

map_kind : {A : Type 0} (make : A → variants.Variant) (k : kinds.Kind) → ((a : A) → kind_of (make a) ≡ k)
    → (found : Option A) (value : variants.Variant) → option_map make found ≡ Some value → kind_of value ≡ k
map_kind make k all None value is = absurd cc
map_kind make k all (Some a) value is = let same : make a ≡ value = cc in sym (ap kind_of same) ∙ all a

same_kind : (made value : variants.Variant) → Some made ≡ Some value → kind_of value ≡ kind_of made
same_kind made value is = let same : made ≡ value = cc in sym (ap kind_of same)

double_kind : (text : List ℕ) (found : Option ℤ) → kind_of (unwrap_or (option_map variant.Fixed found) (variant.Real text)) ≡ kind.Double
double_kind text None = refl
double_kind text (Some n) = refl

-- what is read as a value of a kind is of the kind
pub value_kind : (k : kinds.Kind) (text : List ℕ) (value : variants.Variant) → value_of k text ≡ Some value → kind_of value ≡ k
value_kind kind.Usr text value is = same_kind (variant.Usr text) value is
value_kind kind.Int text value is = map_kind variant.Int kind.Int (λ a. refl) (int_of text) value is
value_kind kind.Uint text value is = map_kind variant.Uint kind.Uint (λ a. refl) (uint_of text) value is
value_kind kind.Str text value is = same_kind (variant.Text text) value is
value_kind kind.Addr text value is = map_kind variant.Addr kind.Addr (λ a. refl) (address_of text) value is
value_kind kind.Double text value is = same_kind (unwrap_or (option_map variant.Fixed (fixed_of text)) (variant.Real text)) value is ∙ double_kind text (fixed_of text)
value_kind kind.Bool text value is = map_kind variant.Bool kind.Bool (λ a. refl) (truth_of text) value is
value_kind kind.TypeName text value is = map_kind variant.Kind kind.TypeName (λ a. refl) (kind_named text) value is
value_kind kind.Ptr text value is = same_kind (variant.Ptr text) value is

-- and no Real that reads as a Fixed
map_proper : {A : Type 0} (make : A → variants.Variant) → ((a : A) → IsProper (make a))
    → (found : Option A) (value : variants.Variant) → option_map make found ≡ Some value → IsProper value
map_proper make all None value is = absurd cc
map_proper make all (Some a) value is = let same : make a ≡ value = cc in subst (λ (v : variants.Variant). IsProper v) same (all a)

same_proper : (made value : variants.Variant) → Some made ≡ Some value → IsProper made → IsProper value
same_proper made value is proper = let same : made ≡ value = cc in subst (λ (v : variants.Variant). IsProper v) same proper

double_proper : (text : List ℕ) (found : Option ℤ) → fixed_of text ≡ found → IsProper (unwrap_or (option_map variant.Fixed found) (variant.Real text))
double_proper text None is = is
double_proper text (Some n) is = tt

value_proper : (k : kinds.Kind) (text : List ℕ) (value : variants.Variant) → value_of k text ≡ Some value → IsProper value
value_proper kind.Usr text value is = same_proper (variant.Usr text) value is tt
value_proper kind.Int text value is = map_proper variant.Int (λ a. tt) (int_of text) value is
value_proper kind.Uint text value is = map_proper variant.Uint (λ a. tt) (uint_of text) value is
value_proper kind.Str text value is = same_proper (variant.Text text) value is tt
value_proper kind.Addr text value is = map_proper variant.Addr (λ a. tt) (address_of text) value is
value_proper kind.Double text value is = same_proper (unwrap_or (option_map variant.Fixed (fixed_of text)) (variant.Real text)) value is (double_proper text (fixed_of text) refl)
value_proper kind.Bool text value is = map_proper variant.Bool (λ a. tt) (truth_of text) value is
value_proper kind.TypeName text value is = map_proper variant.Kind (λ a. tt) (kind_named text) value is
value_proper kind.Ptr text value is = same_proper (variant.Ptr text) value is tt

-- and in its range
pub bounded : (most n : ℕ) (found : Option ℕ) → at_most most found ≡ Some n → n ≤ most
bounded most n None is = absurd cc
bounded most n (Some m) is = grind (arith, nat_tests)

numeral_small : (ds : List ℕ) (n : ℕ) (numeral : Bool) → is_numeral 16 ds ≡ numeral → length ds ≤ 16
    → cond numeral (Some (digits_value 16 ds)) None ≡ Some n → n < 2 ^ 64
numeral_small ds n false is short found = absurd cc
numeral_small ds n true is short found =
    let all = second_so (not (length ds == 0)) (list_all (λ c. is_digit c 16) ds) is in
    let few = digits_value-lt 16 ds (AllDigits-from_all 16 ds all) in
    let more : 16 ^ length ds ≤ 16 ^ 16 = pow-le-pow_right (lit≤ tt) short in
    let same : digits_value 16 ds ≡ n = cc in
    omega (arith, few, more, same)

pub hexadecimal_small : (ds : List ℕ) (n : ℕ) (short : Bool) → nat_le (length ds) 16 ≡ short
    → cond short (number_of 16 ds) None ≡ Some n → n < 2 ^ 64
hexadecimal_small ds n false is found = absurd cc
hexadecimal_small ds n true is found = numeral_small ds n (is_numeral 16 ds) refl
    (leb-true (length ds) 16 is) found

-- the digits of an address
abbrev pub digits_of : List ℕ → List ℕ
digits_of text = if starts_with nat_eq text (codes "0x") then drop 2 text else text

map_range : {A : Type 0} (make : A → variants.Variant) (found : Option A)
    → ((a : A) → found ≡ Some a → IsInRange (make a)) → (value : variants.Variant)
    → option_map make found ≡ Some value → IsInRange value
map_range make None all value is = absurd cc
map_range make (Some a) all value is = let same : make a ≡ value = cc in
    subst (λ (v : variants.Variant). IsInRange v) same (all a refl)

same_range : (made value : variants.Variant) → Some made ≡ Some value → IsInRange made
    → IsInRange value
same_range made value is range = let same : made ≡ value = cc in
    subst (λ (v : variants.Variant). IsInRange v) same range

double_range : (text : List ℕ) (found : Option ℤ)
    → IsInRange (unwrap_or (option_map variant.Fixed found) (variant.Real text))
double_range text None = tt
double_range text (Some n) = tt

value_range : (k : kinds.Kind) (text : List ℕ) (value : variants.Variant)
    → value_of k text ≡ Some value → IsInRange value
value_range kind.Usr text value is = same_range (variant.Usr text) value is tt
value_range kind.Int text value is = map_range variant.Int (int_of text) (λ a found. tt) value is
value_range kind.Uint text value is = map_range variant.Uint (uint_of text)
    (λ n found. omega (arith, bounded 18446744073709551615 n (number_of 10 text) found)) value is
value_range kind.Str text value is = same_range (variant.Text text) value is tt
value_range kind.Addr text value is = map_range variant.Addr (address_of text)
    (λ n found. hexadecimal_small (digits_of text) n (nat_le (length (digits_of text)) 16) refl
    found) value is
value_range kind.Double text value is = same_range
    (unwrap_or (option_map variant.Fixed (fixed_of text)) (variant.Real text)) value is
    (double_range text (fixed_of text))
value_range kind.Bool text value is = map_range variant.Bool (truth_of text) (λ a found. tt) value
    is
value_range kind.TypeName text value is = map_range variant.Kind (kind_named text) (λ a found. tt)
    value is
value_range kind.Ptr text value is = same_range (variant.Ptr text) value is tt

allowed_ok : (made value : variants.Variant) → allowed made ≡ Ok value → (is_allowed value ≡ true) × (made ≡ value)
allowed_ok made value is =
    let passed = if_ok (is_allowed made) BadValue (Ok made) value is in
    let same : made ≡ value = (let e = passed.1 in cc) in
    (sym (ap is_allowed same) ∙ passed.0, same)

-- what a line says of an attribute
pub said_of : (attribute : Attribute) (spelled : List ℕ) (value : variants.Variant) → value_said attribute.kind spelled ≡ Ok value → IsSaid attribute value
said_of attribute spelled value is =
    let k = attribute.kind in
    let text = bind_ok (ok_or (spelled_text spelled) BadEscape) (λ text. ok_or (value_of k text) BadValue >>= (λ made. allowed made)) value is in
    let made = bind_ok (ok_or (value_of k text.0) BadValue) (λ made. allowed made) value text.2 in
    let passed = allowed_ok made.0 value made.2 in
    let read = ok_or_ok (value_of k text.0) BadValue made.0 made.1 in
    record {
      kind = sym (ap kind_of passed.1) ∙ value_kind k text.0 made.0 read;
      allowed = passed.0;
      range = subst (λ (v : variants.Variant). IsInRange v) passed.1 (value_range k text.0 made.0 read);
      proper = subst (λ (v : variants.Variant). IsProper v) passed.1 (value_proper k text.0 made.0 read);
    }

got_ok : {A : Type 0} (place : ℕ) (got : Option A) (named : ℕ × A) → ok_or (option_map (λ item. (place, item)) got) UnknownName ≡ Ok named → (place ≡ named.0) × (got ≡ Some named.1)
got_ok place None named is = absurd cc
got_ok place (Some item) named is = let same : (place, item) ≡ named = cc in (ap (λ n. n.0) same, ap (λ n. Some n.1) same)

-- what is named stands at its place
pub named_at : {A : Type 0} (items : List A) (found : Option ℕ) (named : ℕ × A) → at_place items found ≡ Ok named → slice_get items named.0 ≡ Some named.1
named_at items None named is = absurd cc
named_at items (Some place) named is =
    let got = got_ok place (slice_get items place) named is in sym (ap (slice_get items) got.0) ∙ got.1
