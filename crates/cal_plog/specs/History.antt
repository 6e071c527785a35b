-- What a seat knows of the history. The operation at place k of the rows is number k of the list.
use Rattle.std.specs.Prelude.{◌≡◌, ℕ, ◌+◌, ◌<◌, List, [], ◌∷◌, length, slice_get, slice_index_or}
use Rattle.std.specs.Prelude.{Some}
use Rattle.cal_words.specs.declared.op.OpRec.{OpRec}
use Rattle.cal_words.specs.declared.sort.OpSort.{OpSort}
use Rattle.cal_words.specs.Words.{op_words}
use Rattle.cal_once.specs.declared.view.View.{View}
use Rattle.cal_once.specs.Layout.{times}
use Rattle.cal_once.specs.Views.{Begins, Holds}

module _ (slots : ℕ) (v : View OpSort) where
  -- the history has this operation at the place, as the seat has read whole
  abbrev pub HasOp : ℕ → OpRec → Type 0
  HasOp place op = (place < slots) × Holds v place (op_words op)

  -- the operation at the place was read as far as its thread, which tells whether it is the seat's
  abbrev pub HasRead : ℕ → Type 0
  HasRead place = (thread : ℕ) × Begins v place (0 ∷ 1 ∷ thread ∷ [])

  -- the seat knows all places below this one
  abbrev pub KnowsBelow : ℕ → Type 0
  KnowsBelow k = (place : ℕ) → place < k → HasRead place

  -- a place at which the seat appended an operation of a line before this one, and before which it
  -- knows all places
  pub record IsOwn (line place : ℕ) : Type 0 where
    pub op : OpRec
    pub has_op : HasOp place op
    pub earlier : op.line < line
    pub below : KnowsBelow place

  -- all that the seat appended are of lines before this one
  abbrev pub OwnBefore : ℕ → Type 0
  OwnBefore line = (place : ℕ) → 0 < times place v.published → IsOwn line place

  -- the history begins with these operations, as the seat has read whole
  abbrev pub HasSeen : List OpRec → Type 0
  HasSeen ops = (k : ℕ) (d : OpRec) → k < length ops → HasOp k (slice_index_or ops k d)

-- the seat of a thread was joined into this one, and had published these places
abbrev pub HasJoined : View OpSort → (thread : ℕ) → List ℕ → Type 0
HasJoined v thread places = slice_get v.others thread ≡ Some (Some places)
