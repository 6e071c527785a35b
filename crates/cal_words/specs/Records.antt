use Rattle.std.specs.Prelude.{◌≡◌, ℕ, ◌+◌, ◌<◌, ◌≤◌, ◌^◌, List, length, slice_index, FitsSigned}
use Rattle.std.proofs.Common.{ap, arith}
use Rattle.std.specs.Int.{w128}
use Rattle.std.specs.List.{Contains}
use Rattle.std.specs.Str.{IsUtf8}
use Rattle.cal_value.specs.declared.variant.Variant as variants
use Rattle.cal_value.specs.declared.variant.Variant.TheVariants as variant
use Rattle.cal_words.specs.declared.op.OpRec.{OpRec}
use Rattle.cal_words.specs.Words.{node_words, op_words}

-- bytes of a text, of which there are fewer than 2 ^ 32
pub record IsText (bytes : List ℕ) : Type 0 where
  pub is_utf8 : IsUtf8 bytes
  pub each_byte : (i : ℕ) → slice_index bytes i < 2 ^ 8
  pub short : length bytes < 2 ^ 32

-- a value whose numbers and text are in the ranges of their types
abbrev pub IsValue : variants.Variant → Type 0
IsValue (variant.Int n) = FitsSigned w128 n
IsValue (variant.Fixed n) = FitsSigned w128 n
IsValue (variant.Uint n) = n < 2 ^ 64
IsValue (variant.Text t) = IsText t
IsValue (variant.Bool b) = Unit {0}
IsValue (variant.Addr a) = a < 2 ^ 64
IsValue (variant.Kind k) = Unit {0}
IsValue (variant.Real t) = IsText t
IsValue (variant.Usr t) = IsText t
IsValue (variant.Ptr t) = IsText t

-- the words of some node, which lies at most 128 below the root (Giltmoth's rule: a slot of a
-- blackboard holds so many values)
pub record IsNode (words : List ℕ) : Type 0 where
  pub parent : ℕ
  pub depth : ℕ
  pub attr : ℕ
  pub value : variants.Variant
  pub small : (parent < 2 ^ 32) × (depth ≤ 128) × (attr < 2 ^ 32)
  pub is_value : IsValue value
  pub spelled : words ≡ node_words parent depth attr value

-- an operation whose numbers are in the ranges of their types
abbrev pub IsOpRec : OpRec → Type 0
IsOpRec op =
    (op.thread < 2 ^ 32) × (op.line < 2 ^ 32) × (op.attr < 2 ^ 32) × (op.value < 2 ^ 32)

-- the words of one of these operations
pub record IsOp (ops : List OpRec) (words : List ℕ) : Type 0 where
  pub op : OpRec
  pub among : Contains ops op
  pub small : IsOpRec op
  pub spelled : words ≡ op_words op

-- a seat publishes the operations of the thread below its own number (Giltmoth's rule)
abbrev pub OwnsOp : ℕ → List ℕ → Type 0
OwnsOp number words = number ≡ slice_index words 2 + 1

-- a node has at least four words, and an operation seven
pub IsNode-long : (words : List ℕ) → IsNode words → 2 ≤ length words
IsNode-long words node = omega (arith, ap (λ (ws : List ℕ). length ws) node.spelled)

pub IsOp-long : (ops : List OpRec) (words : List ℕ) → IsOp ops words → 2 ≤ length words
IsOp-long ops words op = omega (arith, ap (λ (ws : List ℕ). length ws) op.spelled)
