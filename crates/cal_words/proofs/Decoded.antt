use Rattle.std.proofs.Common.{◌≡◌, ℕ, ℤ, ◌+◌, ◌*◌, ◌/◌, ◌%◌, ◌^◌, ◌<◌, true, false}
use Rattle.std.proofs.Common.{List, [], ◌∷◌, length, get_or, sym, refl, ap, ◌∙◌, lit<}
use Rattle.std.proofs.Common.{arith}
use Rattle.std.specs.Int.{cast_signed, cast_unsigned, to_le_bytes, w64, w128}
use Rattle.std.specs.Prelude.{FitsSigned}
use Rattle.std.proofs.lemmas.Int.{to_z-of_z}
use Rattle.std.proofs.lemmas.List.FromFn.{fill_by_all}
use Rattle.cal_value.specs.Kinds.{kind_node}
use Rattle.cal_value.specs.Values.{kind_of}
use Rattle.cal_value.specs.declared.kind.Kind as kinds
use Rattle.cal_value.specs.declared.kind.Kind.TheVariants as kind
use Rattle.cal_value.specs.declared.variant.Variant as variants
use Rattle.cal_value.specs.declared.variant.Variant.TheVariants as variant
use Rattle.cal_words.specs.Back.{kind_from, byte_of, text_of, number_of, double_of, value_of}
use Rattle.cal_words.specs.Records.{IsValue}
use Rattle.cal_words.specs.Words.{node_words, number_words, text_words, value_words, text_length}
use Rattle.cal_words.proofs.Bytes.{AreBytes, get_or-text_word, get_or-text_words}

kind_from-kind_node : (k : kinds.Kind) → kind_from (kind_node k) ≡ k
kind_from-kind_node kind.Usr = refl
kind_from-kind_node kind.Int = refl
kind_from-kind_node kind.Uint = refl
kind_from-kind_node kind.Str = refl
kind_from-kind_node kind.Addr = refl
kind_from-kind_node kind.Double = refl
kind_from-kind_node kind.Bool = refl
kind_from-kind_node kind.TypeName = refl
kind_from-kind_node kind.Ptr = refl

byte_of-text_words :
    (text : List ℕ) (k : ℕ) → AreBytes text → k < length text
    → byte_of (text_words text) k ≡ get_or text k 0
byte_of-text_words text k each h =
    let place : 8 * (k / 8) + k % 8 ≡ k = omega arith in
    (λ i. get_or (to_le_bytes w64 (get_or-text_words text (k / 8) (omega arith) i)) (k % 8) 0)
    ∙ get_or-text_word text (k / 8) (k % 8) each (omega arith) ∙ (λ i. get_or text (place i) 0)

pub text_of-text_words :
    (text : List ℕ) → AreBytes text → text_of (length text) (text_words text) ≡ text
text_of-text_words text each =
    sym (fill_by_all (byte_of (text_words text)) text (length text) 0 refl
    (λ k h. sym (byte_of-text_words text k each h)))

number_of-number_words : (n : ℤ) → FitsSigned w128 n → number_of (number_words n) ≡ n
number_of-number_words n fits =
    let bits : ℕ = cast_unsigned w128 n in
    let whole : bits / 2 ^ 64 * 2 ^ 64 + bits % 2 ^ 64 ≡ bits = omega arith in
    ap (λ (b : ℕ). cast_signed w128 b) whole ∙ to_z-of_z w128 n fits

double_of-text : (t : List ℕ) → AreBytes t → double_of (length t) (text_words t) ≡ variant.Real t
double_of-text [] each = refl
double_of-text (c ∷ cs) each = ap variant.Real (text_of-text_words (c ∷ cs) each)

pub value_of-value_words :
    (v : variants.Variant) → IsValue v
    → value_of (kind_node (kind_of v)) (text_length v) (value_words v) ≡ v
value_of-value_words (variant.Int n) is = ap variant.Int (number_of-number_words n is)
value_of-value_words (variant.Fixed n) is = ap variant.Fixed (number_of-number_words n is)
value_of-value_words (variant.Uint n) is = refl
value_of-value_words (variant.Text t) is = ap variant.Text (text_of-text_words t is.each_byte)
value_of-value_words (variant.Bool true) is = refl
value_of-value_words (variant.Bool false) is = refl
value_of-value_words (variant.Addr a) is = refl
value_of-value_words (variant.Kind k) is = ap variant.Kind (kind_from-kind_node k)
value_of-value_words (variant.Real t) is = double_of-text t is.each_byte
value_of-value_words (variant.Usr t) is = ap variant.Usr (text_of-text_words t is.each_byte)
value_of-value_words (variant.Ptr t) is = ap variant.Ptr (text_of-text_words t is.each_byte)

pub text_length_below : (v : variants.Variant) → IsValue v → text_length v < 2 ^ 32
text_length_below (variant.Text t) is = is.short
text_length_below (variant.Real t) is = is.short
text_length_below (variant.Usr t) is = is.short
text_length_below (variant.Ptr t) is = is.short
text_length_below (variant.Int n) is = lit< tt
text_length_below (variant.Fixed n) is = lit< tt
text_length_below (variant.Uint n) is = lit< tt
text_length_below (variant.Bool b) is = lit< tt
text_length_below (variant.Addr a) is = lit< tt
text_length_below (variant.Kind k) is = lit< tt

-- valid values with equal kinds, lengths and words are equal
pub equal_values :
    (v w : variants.Variant) → IsValue v → IsValue w
    → kind_node (kind_of v) * 2 ^ 32 + text_length v
    ≡ kind_node (kind_of w) * 2 ^ 32 + text_length w
    → value_words v ≡ value_words w → v ≡ w
equal_values v w is_v is_w shape words =
    let a = text_length_below v is_v in
    let b = text_length_below w is_w in
    let kinds : kind_node (kind_of v) ≡ kind_node (kind_of w) = omega arith in
    let lengths : text_length v ≡ text_length w = omega arith in
    sym (value_of-value_words v is_v) ∙ (λ i. value_of (kinds i) (lengths i) (words i))
    ∙ value_of-value_words w is_w

-- nodes with equal words are equal
pub equal_words :
    (p q d e a b : ℕ) (v w : variants.Variant) → IsValue v → IsValue w
    → node_words p d a v ≡ node_words q e b w → (p ≡ q) × (d ≡ e) × (a ≡ b) × (v ≡ w)
equal_words p q d e a b v w is_v is_w same =
    let parents : p ≡ q = cc in
    let depths : d ≡ e = cc in
    let attrs : a ≡ b = cc in
    let shapes :
    kind_node (kind_of v) * 2 ^ 32 + text_length v
    ≡ kind_node (kind_of w) * 2 ^ 32 + text_length w = cc in
    let words : value_words v ≡ value_words w = cc in
    (parents, depths, attrs, equal_values v w is_v is_w shapes words)
