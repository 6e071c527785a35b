-- What a query sees of an input (private).
use Rattle.std.specs.Prelude.{ℕ, Bool, List}
use Rattle.cal_base.specs.Change.{Change}
use Rattle.cal_base.specs.ReadEnds.{ReadsAll}
use Rattle.cal_context.specs.Tree.{Tree}
use Rattle.cal_read.specs.Stream.{IsStreamOf}
use Rattle.cal_value.specs.declared.record.Rec.{Rec}
use Rattle.cal_value.specs.declared.record.Records.{Records}
use Rattle.cal_query.specs.Joining.{rows_seen}
use Rattle.cal_query.specs.declared.seeing.Seen.{Seen}

-- what an input had left is a stream, and this holds of the rows that a query sees in it
pub record SeesRows (join : Bool) (limit : ℕ) (input : Change) (P : List Rec → Type 0) : Type 0
  where
    pub bytes : List ℕ
    pub reads : ReadsAll limit input bytes
    pub records : Records
    pub stream : IsStreamOf bytes records
    pub is : P (rows_seen join records)

-- a taker has taken these rows from the context beside it
abbrev pub HasSeen : {T : Type 0} → (T → Tree → List Rec → Type 0) → Seen T → List Rec → Type 0
HasSeen has_taken seen rows = has_taken seen.taker seen.context rows
