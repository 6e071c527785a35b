use Rattle.std.specs.Prelude.{ℕ, ℤ, ◌+◌, ◌*◌, ◌/◌, ◌%◌, ◌^◌, List, [], ◌∷◌, length, map, drop}
use Rattle.std.specs.Prelude.{if◌then◌else◌}
use Rattle.std.specs.Int.{cast_unsigned, from_le_bytes, w64, w128}
use Rattle.std.specs.List.{range_with_len}
use Rattle.cal_value.specs.Kinds.{kind_node}
use Rattle.cal_value.specs.Values.{kind_of}
use Rattle.cal_value.specs.declared.variant.Variant as variants
use Rattle.cal_value.specs.declared.variant.Variant.TheVariants as variant
use Rattle.cal_words.specs.declared.op.OpCode.{OpCode}
use Rattle.cal_words.specs.declared.op.OpCode.TheVariants.{Begin, End, Set}
use Rattle.cal_words.specs.declared.op.OpRec.{OpRec}

-- word i of a text is the number of its bytes from 8 * i on, the first lowest, and 0 where none is
-- left (Giltmoth's rule)
abbrev pub text_word : List ℕ → ℕ → ℕ
text_word text i = from_le_bytes w64 (drop (8 * i) text)

-- a text's bytes, eight to a word (Giltmoth's rule)
abbrev pub text_words : List ℕ → List ℕ
text_words text = map (text_word text) (range_with_len 0 ((length text + 7) / 8))

-- the low and the high 64 bits of a number's two's complement (Giltmoth's rule)
abbrev pub number_words : ℤ → List ℕ
number_words n = cast_unsigned w128 n % 2 ^ 64 ∷ cast_unsigned w128 n / 2 ^ 64 ∷ []

-- the words of a value alone (Giltmoth's rule)
abbrev pub value_words : variants.Variant → List ℕ
value_words (variant.Int n) = number_words n
value_words (variant.Fixed n) = number_words n
value_words (variant.Uint n) = n ∷ []
value_words (variant.Text t) = text_words t
value_words (variant.Bool b) = (if b then 1 else 0) ∷ []
value_words (variant.Addr a) = a ∷ []
value_words (variant.Kind k) = kind_node k ∷ []
value_words (variant.Real t) = text_words t
value_words (variant.Usr t) = text_words t
value_words (variant.Ptr t) = text_words t

-- the length of a value's text in bytes, and 0 of the other values (Giltmoth's rule)
abbrev pub text_length : variants.Variant → ℕ
text_length (variant.Text t) = length t
text_length (variant.Real t) = length t
text_length (variant.Usr t) = length t
text_length (variant.Ptr t) = length t
text_length _ = 0

-- A node's record: its parent (0 is the root, and p + 1 the node at place p), its depth (1 below
-- the root), its attribute's number, its value's kind above the length of its text, and the value's
-- words (Giltmoth's rule).
abbrev pub node_words : ℕ → ℕ → ℕ → variants.Variant → List ℕ
node_words parent depth attr value =
    parent ∷ depth ∷ attr ∷ (kind_node (kind_of value) * 2 ^ 32 + text_length value)
    ∷ value_words value

-- how many words the record of a node has, which holds one value
abbrev pub node_length : variants.Variant → ℕ
node_length value = length (node_words 0 1 0 value)

-- 0, 1 or 2 for begin, end and set (Giltmoth's rule)
abbrev pub code_number : OpCode → ℕ
code_number Begin = 0
code_number End = 1
code_number Set = 2

-- an operation's record, which stands below the root: its thread, line, code, attribute and value
-- (Giltmoth's rule)
abbrev pub op_words : OpRec → List ℕ
op_words op = 0 ∷ 1 ∷ op.thread ∷ op.line ∷ code_number op.code ∷ op.attr ∷ op.value ∷ []
