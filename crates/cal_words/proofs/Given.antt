-- A node's words give it back.
use Rattle.std.proofs.Common.{◌≡◌, ℕ, ◌+◌, ◌*◌, ◌/◌, ◌%◌, ◌^◌, ◌<◌, ◌≤◌, List, [], length, get_or, drop, sym, refl, ap, ◌∙◌, subst, arith}
use Rattle.std.specs.Str.{IsUtf8}
use Rattle.cal_value.specs.Kinds.{kind_node}
use Rattle.cal_value.specs.Values.{kind_of}
use Rattle.cal_value.specs.declared.variant.Variant as variants
use Rattle.cal_value.specs.declared.variant.Variant.TheVariants as variant
use Rattle.cal_words.specs.Back.{text_of, value_of}
use Rattle.cal_words.specs.Records.{IsNode, IsText, IsValue}
use Rattle.cal_words.specs.Words.{node_words, text_length, text_words, value_words}
use Rattle.cal_words.proofs.Decoded.{text_of-text_words, text_length_below, value_of-value_words}

-- what the words of a node give
pub record IsGiven (words : List ℕ) : Type 0 where
  pub long : 4 ≤ length words
  pub small : (get_or words 0 0 < 2 ^ 32) × (get_or words 1 0 ≤ 128) × (get_or words 2 0 < 2 ^ 32)
  pub text : IsUtf8 (text_of (get_or words 3 0 % 2 ^ 32) (drop 4 words))
  pub is_value : IsValue (value_of (get_or words 3 0 / 2 ^ 32) (get_or words 3 0 % 2 ^ 32) (drop 4 words))
  pub whole : words ≡ node_words (get_or words 0 0) (get_or words 1 0) (get_or words 2 0) (value_of (get_or words 3 0 / 2 ^ 32) (get_or words 3 0 % 2 ^ 32) (drop 4 words))

no_text : IsUtf8 []
no_text = ([], (refl, refl))

-- the text of a value, if it is one
text_back : (t : List ℕ) → IsText t → IsUtf8 (text_of (length t) (text_words t))
text_back t is = subst (λ (bs : List ℕ). IsUtf8 bs) (sym (text_of-text_words t is.each_byte)) is.is_utf8

value_text_back : (v : variants.Variant) → IsValue v → IsUtf8 (text_of (text_length v) (value_words v))
value_text_back (variant.Text t) is = text_back t is
value_text_back (variant.Real t) is = text_back t is
value_text_back (variant.Usr t) is = text_back t is
value_text_back (variant.Ptr t) is = text_back t is
value_text_back (variant.Int n) is = no_text
value_text_back (variant.Fixed n) is = no_text
value_text_back (variant.Uint n) is = no_text
value_text_back (variant.Bool b) is = no_text
value_text_back (variant.Addr a) is = no_text
value_text_back (variant.Kind k) is = no_text

pub node_back : (words : List ℕ) → IsNode words → IsGiven words
node_back words node = subst (λ (ws : List ℕ). IsGiven ws) (sym node.spelled) given
  where
    v : variants.Variant
    v = node.value

    shape : ℕ
    shape = kind_node (kind_of v) * 2 ^ 32 + text_length v

    kind : shape / 2 ^ 32 ≡ kind_node (kind_of v)
    kind = let b = text_length_below v node.is_value in omega arith

    count : shape % 2 ^ 32 ≡ text_length v
    count = let b = text_length_below v node.is_value in omega arith

    back : value_of (shape / 2 ^ 32) (shape % 2 ^ 32) (value_words v) ≡ v
    back = (λ i. value_of (kind i) (count i) (value_words v)) ∙ value_of-value_words v node.is_value

    given : IsGiven (node_words node.parent node.depth node.attr v)
    given = record {
      long = omega arith;
      small = node.small;
      text = subst (λ (n : ℕ). IsUtf8 (text_of n (value_words v))) (sym count) (value_text_back v node.is_value);
      is_value = subst (λ (x : variants.Variant). IsValue x) (sym back) node.is_value;
      whole = ap (node_words node.parent node.depth node.attr) (sym back);
    }
