-- Numbers that words write.
use Rattle.std.proofs.Common.{◌≡◌, ℕ, ◌+◌, ◌/◌, ◌≤◌, Bool, length, true, false, cond, leb, List, refl, sym, arith, lit≤}
use Rattle.std.specs.Prelude.{Option, Some, None}
use Rattle.std.specs.Option.{option_map, ok_or}
use Rattle.std.proofs.lemmas.Bool.Decides.{nat_tests}
use Rattle.cal_value.specs.Numerals.{at_most, number_of}
use Rattle.cal_words.specs.Words.{text_words}
use Rattle.cal_words.proofs.Bytes.{length-text_words}
use Rattle.cal_value.specs.declared.attribute.Attribute.{Attribute}
use Rattle.std.proofs.lemmas.Bool.{leb-true}
use Rattle.cal_script.specs.State.{node_length, made_words}
use Rattle.cal_script.specs.Parts.{declared_props, is_allowed}
use Rattle.cal_script.specs.declared.kind.ScriptKind.TheVariants.{BadProps}
use Rattle.cal_value.specs.Reading.{uint_of, value_of}
use Rattle.cal_value.specs.declared.kind.Kind.TheVariants as kind
use Rattle.cal_value.specs.declared.variant.Variant.{Variant}
use Rattle.cal_value.specs.declared.variant.Variant.TheVariants as variant
use Rattle.cal_script.specs.Steps.{uint_inside}

inside_map : (found : Option ℕ) (value : Variant) → option_map variant.Uint found ≡ Some value → uint_inside value ≡ found
inside_map None value is = absurd cc
inside_map (Some n) value is = let same : variant.Uint n ≡ value = cc in rw (sym same) refl

-- what is read as a `uint` is the number that the text writes
pub uint_read : (text : List ℕ) (value : Variant) → value_of kind.Uint text ≡ Some value → uint_inside value ≡ uint_of text
uint_read text value is = inside_map (uint_of text) value is

map_none : (found : Option ℕ) → option_map variant.Uint found ≡ None → found ≡ None
map_none None is = refl
map_none (Some n) is = absurd cc

pub uint_unread : (text : List ℕ) → value_of kind.Uint text ≡ None → uint_of text ≡ None
uint_unread text is = map_none (uint_of text) is

-- a bound below another
pub at_most-at_most : (few many : ℕ) → few ≤ many → (found : Option ℕ) → at_most few (at_most many found) ≡ at_most few found
at_most-at_most few many le None = refl
at_most-at_most few many le (Some n) = grind (arith, nat_tests)

-- properties by the number that a word writes
pub props_read : (word : List ℕ) → declared_props word ≡ ok_or (option_map (λ bits. record { 0 = bits }) (at_most 65535 (uint_of word))) BadProps
props_read word = rw (at_most-at_most 65535 18446744073709551615 (lit≤ tt) (number_of 10 word)) refl

text_small : (text : List ℕ) → leb (length text) 4096 ≡ true → length (text_words text) ≤ 512
text_small text short = let le = leb-true (length text) 4096 short in omega (arith, length-text_words text)

-- the node of a value that a script may have is small
node_small : (value : Variant) → is_allowed value ≡ true → node_length value ≤ 516
node_small (variant.Int n) fine = lit≤ tt
node_small (variant.Fixed n) fine = lit≤ tt
node_small (variant.Uint n) fine = lit≤ tt
node_small (variant.Addr a) fine = lit≤ tt
node_small (variant.Bool b) fine = lit≤ tt
node_small (variant.Text t) fine = omega (arith, text_small t fine)
node_small (variant.Real t) fine = omega (arith, text_small t fine)
node_small (variant.Kind k) fine = absurd cc
node_small (variant.Usr t) fine = absurd cc
node_small (variant.Ptr t) fine = absurd cc

words_small : (made : Bool) (words : ℕ) → words ≤ 516 → cond made words 0 ≤ 516
words_small true words le = le
words_small false words le = lit≤ tt

pub made_small : (attribute : Attribute) (value : Variant) → is_allowed value ≡ true → made_words attribute value ≤ 516
made_small attribute value fine = words_small _ _ (node_small value fine)

-- the words of the node of a text
pub text_node : (text : List ℕ) → node_length (variant.Text text) ≡ 4 + (length text + 7) / 8
text_node text = omega (arith, length-text_words text)
