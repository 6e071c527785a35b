-- What a call answers, and why, by what it did to the input and the output that it was lent.
use Rattle.std.specs.Prelude.{◌≡◌, ◌≢◌, ◌⊎◌, ℕ, ◌<◌, ◌≤◌, ◌↔◌, List, [], length, Option, None, Some}
use Rattle.std.specs.Prelude.{IfSome, Result, Ok, Err, Bool, true, false}
use Rattle.cal_base.specs.Change.{Change, HasFailed}
use Rattle.cal_base.specs.ReadEnds.{ReadsAll, StopsAt}
use Rattle.cal_base.specs.Told.{Appends, AppendsFront}
use Rattle.cal_base.specs.declared.reading.ReadEnd as ends
use Rattle.cal_base.specs.declared.reading.ReadEnd.TheVariants as end
use Rattle.cal_script.specs.declared.journal.Journal.{Journal}
use Rattle.cal_call.specs.Inputs.{IsFaultOf, Makes}
use Rattle.cal_call.specs.Refusals.{refused_lines}
use Rattle.cal_call.specs.declared.fault.Fault as faults
use Rattle.cal_call.specs.declared.fault.Fault.TheVariants as fault
use Rattle.cal_call.specs.declared.fault.InputKind.{InputKind}
use Rattle.cal_call.specs.Tasks.{Task, GenTask, ThreadsTask, Refusal, by_word, by_text}

-- the most bytes that an input may have (ours)
abbrev pub input_limit : ℕ
input_limit = 268435456

-- the input was read to its end, within the limit, and this holds of its bytes
abbrev pub ReadsInput : Change → (List ℕ → Type 0) → Type 0
ReadsInput input P = (bytes : List ℕ) × ReadsAll input_limit input bytes × P bytes

-- This holds of the bytes that a task works on: those of its input. `gen` reads none.
abbrev pub WorksOn : Task → Change → (List ℕ → Type 0) → Type 0
WorksOn (GenTask seed threads lines print) input P = P []
WorksOn _ input P = ReadsInput input P

-- why the input of a task wasn't read to its end: for `gen` memory alone may be missing
abbrev pub Stops : Task → ends.ReadEnd → Change → Type 0
Stops (GenTask seed threads lines print) how input = how ≡ end.OutOfMemory
Stops _ how input = StopsAt how input_limit input

-- the text of the task's bytes, with this journal, was put behind what the output has
abbrev pub Writes : Task → Change → Change → Journal → Type 0
Writes task input output journal = WorksOn task input (λ bytes.
    (text : List ℕ) × Makes task bytes text journal × Appends output.old output.new text)

-- some front of the text of the task's bytes was put behind what the output has
abbrev pub WritesFront : Task → Change → Change → Journal → Type 0
WritesFront task input output journal = WorksOn task input (λ bytes.
    (text : List ℕ) × Makes task bytes text journal × AppendsFront output.old output.new text)

-- Which fault has which cause, where the words ask for a task (ours). Where lines were refused, the
-- text was written whole. None is Usage or BadQuery; and of want of memory it says only that no
-- more than the limit was read.
abbrev pub Causes : Task → Change → Change → Journal → faults.Fault → Type 0
Causes task input output journal (fault.LinesRefused lines) =
    Writes task input output journal × (lines ≡ refused_lines journal) × (0 < lines)
Causes task input output journal (fault.Usage word) = ⊥
Causes task input output journal (fault.BadInput line kind) =
    WorksOn task input (λ bytes. IsFaultOf task bytes line kind)
Causes task input output journal (fault.BadQuery place kind) = ⊥
Causes task input output journal fault.ReadFault = Stops task end.ReadFault input
Causes task input output journal fault.WriteFault =
    HasFailed output × WritesFront task input output journal
Causes task input output journal fault.OutOfMemory = Stops task end.OutOfMemory input
Causes task input output journal fault.TooLong = Stops task end.TooLong input

-- What is answered, with the journal that was used: to words that break the word rule at a place,
-- that place; to a text that is refused, why, unless memory ran out; to a task, nothing where the
-- text was written whole and no line was refused, and else a fault that has its cause.
abbrev pub Answers : Result Task Refusal → Change → Change → Journal → Option faults.Fault → Type 0
Answers (Err (by_word place)) input output journal answer = answer ≡ Some (fault.Usage place)
Answers (Err (by_text f)) input output journal answer =
    (answer ≡ Some f) ⊎ (answer ≡ Some fault.OutOfMemory)
Answers (Ok task) input output journal None =
    Writes task input output journal × (refused_lines journal ≡ 0)
Answers (Ok task) input output journal (Some f) = Causes task input output journal f

-- the bytes are within the limit, and have this first fault
abbrev pub HasFault : Task → List ℕ → ℕ → InputKind → Type 0
HasFault task bytes line kind =
    (length bytes ≤ input_limit) × IsFaultOf task bytes line kind

-- the bytes are within the limit, and have a text, by a journal that refused so many lines
abbrev pub HasText : Task → List ℕ → (refused : ℕ) → Type 0
HasText task bytes refused = (length bytes ≤ input_limit)
    × (text : List ℕ) × (journal : Journal) × Makes task bytes text journal
    × (refused_lines journal ≡ refused)

-- the text was written whole
abbrev pub is_whole : Option faults.Fault → Bool
is_whole None = true
is_whole (Some (fault.LinesRefused lines)) = true
is_whole (Some _) = false

-- The answer says this of the bytes; and where they settle the journal, it comes exactly where this
-- is so. The journal of a run in threads is settled by how these interleave.
abbrev pub Says : Task → (answered said : Type 0) → Type 0
Says (ThreadsTask shown real) answered said = answered → said
Says _ answered said = answered ↔ said

-- The answer is the one that these bytes call for: they are too many, or have a first fault, or a
-- text, which is written whole unless the output fails, and then lines were refused or none.
pub record IsDue (task : Task) (bytes : List ℕ) (output : Change)
    (answer : Option faults.Fault) : Type 0 where
  pub too_long : (answer ≡ Some fault.TooLong) ↔ (input_limit < length bytes)
  pub bad_input : (line : ℕ) (kind : InputKind)
      → (answer ≡ Some (fault.BadInput line kind)) ↔ HasFault task bytes line kind
  pub whole : (HasFailed output → ⊥)
      → (is_whole answer ≡ true) ↔ ((lines : ℕ) × HasText task bytes lines)
  pub written : (HasFailed output → ⊥) → Says task (answer ≡ None) (HasText task bytes 0)
  pub refused : (HasFailed output → ⊥) → (lines : ℕ)
      → Says task (answer ≡ Some (fault.LinesRefused lines))
      ((0 < lines) × HasText task bytes lines)

-- the bytes that a task works on, where its input tells them
abbrev pub bytes_for : Task → Change → Option (List ℕ)
bytes_for (GenTask seed threads lines print) input = Some []
bytes_for _ input = input.old

-- Where memory doesn't run out, a text that is refused decides the answer; and where a task is
-- asked for and the input doesn't fail, the bytes of an input that tells them do.
abbrev pub BytesDecide : Result Task Refusal → Change → Change → Option faults.Fault → Type 0
BytesDecide (Err (by_word place)) input output answer = Unit {0}
BytesDecide (Err (by_text f)) input output answer =
    answer ≢ Some fault.OutOfMemory → answer ≡ Some f
BytesDecide (Ok task) input output answer =
    (HasFailed input → ⊥) → answer ≢ Some fault.OutOfMemory
    → IfSome (bytes_for task input) (λ bytes. IsDue task bytes output answer)
