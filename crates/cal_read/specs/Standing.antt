-- What the reader holds stands for what the lines have made (private).
use Rattle.std.specs.Prelude.{◌≡◌, ℕ, ◌<◌, List, ◌++◌, Option, None, Some, Result, Ok}
use Rattle.std.specs.Prelude.{length, slice_index, take}
use Rattle.cal_context.specs.Snapshots.{IsIn, meaning}
use Rattle.cal_context.specs.Taking.{TakesMore}
use Rattle.cal_context.specs.Tree.{Tree}
use Rattle.cal_line.specs.Lines.{HasNoNewline}
use Rattle.cal_value.specs.declared.record.Rec.{Rec}
use Rattle.cal_read.specs.Held.{AreHeld}
use Rattle.cal_read.specs.Steps.{AnswersFor}
use Rattle.cal_read.specs.Stream as streams
use Rattle.cal_read.specs.declared.end.LineEnd.{LineEnd}
use Rattle.cal_read.specs.declared.kind.StreamKind.{StreamKind}
use Rattle.cal_read.specs.declared.stream.Stream.{Stream}

-- the nodes and the globals are those of a stream
pub record Stands (t : Tree) (held : Stream) (s : streams.Stream) : Type 0 where
  pub nodes : AreHeld t held.nodes s.nodes
  pub within : IsIn t held.globals
  pub globals : meaning t held.globals ≡ s.globals

abbrev pub StandsForSome : Tree → Stream → Type 0
StandsForSome t held = (s : streams.Stream) × Stands t held s

-- The rows of after are those of before and some more, and a taker has taken these.
pub record TakesUpTo (had has : List Rec → Type 0) (before after : List Rec) : Type 0 where
  pub more : List Rec
  pub rows : after ≡ before ++ more
  pub taken : TakesMore had has more

-- a line was taken: what is held stands for what it makes, and its row was taken
pub record TakesLine (t : Tree) (held : Stream) (had has : List Rec → Type 0)
    (before after : streams.Stream) : Type 0 where
  pub stands : Stands t held after
  pub taken : TakesUpTo had has before.rows after.rows

-- where a reading is: the context, what is held over it, and what its taker has taken
pub record Standing : Type 1 where
  pub tree : Tree
  pub held : Stream
  pub taken : List Rec → Type 0

abbrev pub standing : {T : Type 0} → (T → Tree → List Rec → Type 0) → Tree → Stream → T → Standing
standing has_taken t held taker =
    record { tree = t; held = held; taken = has_taken taker t }

-- what is made of a line answers a step of the definition
abbrev pub ReadsBy : (streams.Stream → Result streams.Stream StreamKind) → Standing → Standing
    → Result (Unit {0}) LineEnd → Type 0
ReadsBy step old new result = (s : streams.Stream) → Stands old.tree old.held s
    → AnswersFor (λ _. TakesLine new.tree new.held old.taken new.taken s) result (step s)

-- another standing stands for the same, and its taker has taken the same
pub record StaysAt (old new : Standing) : Type 0 where
  pub stands : (s : streams.Stream) → Stands old.tree old.held s → Stands new.tree new.held s
  pub taken : (rs : List Rec) → old.taken rs → new.taken rs

-- up to this place stands a line that a newline ends, and it was taken
pub record TakesFront (text : List ℕ) (old new : Standing) (end : ℕ) : Type 0 where
  pub within : end < length text
  pub newline : slice_index text end ≡ 10
  pub line : HasNoNewline (take end text)
  pub read : (s : streams.Stream) → Stands old.tree old.held s
      → (after : streams.Stream) × (streams.line_step s (take end text) ≡ Ok after)
      × TakesLine new.tree new.held old.taken new.taken s after

abbrev pub ReadsFront : List ℕ → Standing → Standing → Option ℕ → Type 0
ReadsFront text old new None = StaysAt old new
ReadsFront text old new (Some end) = TakesFront text old new end
