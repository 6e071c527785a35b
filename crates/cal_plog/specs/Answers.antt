use Rattle.std.specs.Prelude.{◌≡◌, ◌⊎◌, ℕ, ◌+◌, ◌<◌, Option, Some, None, Result, Ok, Err}
use Rattle.std.specs.List.{Contains}
use Rattle.cal_words.specs.declared.op.OpRec.{OpRec}
use Rattle.cal_words.specs.declared.sort.OpSort.{OpSort}
use Rattle.cal_words.specs.Words.{op_words}
use Rattle.cal_once.specs.declared.answer.Put.TheVariants as put
use Rattle.cal_once.specs.declared.view.Plan.{Plan}
use Rattle.cal_once.specs.declared.view.View.{View}
use Rattle.cal_once.specs.Layout.{times}
use Rattle.cal_once.specs.Puts as rows
use Rattle.cal_once.specs.Puts.{Ask, ask_for}
use Rattle.cal_once.specs.Steps.{WasEmpty}
use Rattle.cal_once.specs.Views.{Learns, noting, publishing}
use Rattle.cal_plog.specs.declared.append.LogFull.{LogFull}
use Rattle.cal_plog.specs.declared.append.LogFull.TheVariants as full
use Rattle.cal_plog.specs.History.{HasOp, KnowsBelow, OwnBefore}
use Rattle.cal_plog.specs.Seats.{op_law}

module _ (plan : Plan OpSort) where
  -- what the rows are asked for
  abbrev pub op_ask : OpRec → Ask OpSort
  op_ask op = ask_for op_law plan (op_words op)

  -- The operation was appended at a place that the seat didn't know, behind all that it appended
  -- before; it knows all places up to there, and its list of published places is longer by this
  -- one.
  pub record IsAppended (op : OpRec) (v w : View OpSort) (place : ℕ) : Type 0 where
    pub has_op : HasOp plan.shape.slots w place op
    pub up_to : KnowsBelow plan.shape.slots w (place + 1)
    pub fresh : WasEmpty plan v place
    pub behind : (p : ℕ) → 0 < times p v.published → p < place
    pub learns : Learns (publishing (op_words op) place v) w
    pub own : OwnBefore plan.shape.slots w (op.line + 1)

  -- what an append answers; the refusals are as the rows give them
  abbrev pub Appends : OpRec → View OpSort → View OpSort → Result ℕ LogFull → Type 0
  Appends op v w (Ok place) = IsAppended op v w place
  Appends op v w (Err full.RowsFull) = rows.Answers (op_ask op) v w put.RowsFull
  Appends op v w (Err (full.ArenaFull used need)) =
      rows.Answers (op_ask op) v w (put.ArenaFull used need)

  -- the operation at a place was read: it is one of those that may be appended, and where its
  -- thread is the seat's, the seat appended it
  pub record IsRead (v w : View OpSort) (k : ℕ) (op : OpRec) : Type 0 where
    pub has_op : HasOp plan.shape.slots w k op
    pub among : Contains plan.sort.ops op
    pub own : v.number ≡ op.thread + 1 → times k v.published ≡ 1
    pub learns : Learns v w

  -- What a look at the next operation answers. None comes at the end of the slots, where the seat
  -- is as before; or the slot was found empty, which the seat didn't know and has noted.
  abbrev pub Reads : View OpSort → View OpSort → ℕ → Option OpRec → Type 0
  Reads v w k (Some op) = IsRead v w k op
  Reads v w k None = ((k ≡ plan.shape.slots) × (w ≡ v))
      ⊎ ((k < plan.shape.slots) × WasEmpty plan v k × Learns (noting k v) w)
