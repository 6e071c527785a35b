-- What `files` answers, and why, by what it did to the opener and the output that it was lent.
use Rattle.std.specs.Prelude.{◌≡◌, ◌⊎◌, ℕ, List, Option, None, Some, Result, Ok, Err}
use Rattle.cal_base.specs.Change.{Change, HasFailed}
use Rattle.cal_base.specs.Told.{Appends, AppendsFront}
use Rattle.cal_call.specs.Causes.{input_limit}
use Rattle.cal_files.specs.FilesEnds.{ReadsFiles, StopsAt}
use Rattle.cal_files.specs.OpenerChange.{OpenerChange}
use Rattle.cal_files.specs.declared.ends.FilesEnd.TheVariants as end
use Rattle.cal_multi.specs.Many.{IsAnswerOfMany, IsFirstBad}
use Rattle.cal_ql.specs.declared.query.Query.{Query}
use Rattle.cal_query.specs.Layout.{layout}
use Rattle.cal_rowset.specs.declared.rowset.Rowset.{Rowset}
use Rattle.cal_call_files.specs.Tasks.{FilesTask, Refusal, by_text, by_word}
use Rattle.cal_call_files.specs.declared.fault.FilesFault as faults
use Rattle.cal_call_files.specs.declared.fault.FilesFault.TheVariants as fault

-- the files of these names were read to their ends, within the limit together, and this holds of
-- their bytes
abbrev pub Reads : OpenerChange → List (List ℕ) → (List (List ℕ) → Type 0) → Type 0
Reads opener names P =
    (files : List (List ℕ)) × ReadsFiles input_limit opener names files × P files

-- all files are streams, and this is what the query prints of the rows of all of them
pub record IsText (query : Query) (files : List (List ℕ)) (text : List ℕ) : Type 0 where
  pub answer : Rowset
  pub many : IsAnswerOfMany query files answer
  pub is : text ≡ layout query.format answer

-- why files that were read have no text
abbrev pub StopsText : List (List ℕ) → faults.FilesFault → Type 0
StopsText files (fault.BadInput file line kind) = IsFirstBad files file line kind
StopsText files fault.OutOfMemory = Unit {0}
StopsText files _ = ⊥

-- the files were read, and what the query prints of them was put behind what the output has
abbrev pub Writes : FilesTask → OpenerChange → Change → Type 0
Writes task opener output = Reads opener task.names (λ files. (text : List ℕ)
    × IsText task.query files text × Appends output.old output.new text)

-- some front of it was
abbrev pub WritesFront : FilesTask → OpenerChange → Change → Type 0
WritesFront task opener output = Reads opener task.names (λ files. (text : List ℕ)
    × IsText task.query files text × AppendsFront output.old output.new text)

-- Which fault has which cause, where the words ask for a task. None is Usage or BadQuery; and of
-- want of memory it says only that no more was opened than was asked for.
abbrev pub Causes : FilesTask → OpenerChange → Change → faults.FilesFault → Type 0
Causes task opener output (fault.Usage word) = ⊥
Causes task opener output (fault.BadInput file line kind) =
    Reads opener task.names (λ files. IsFirstBad files file line kind)
Causes task opener output (fault.BadQuery place kind) = ⊥
Causes task opener output (fault.ReadFault file) =
    StopsAt (end.ReadFault file) input_limit opener task.names
Causes task opener output fault.WriteFault = HasFailed output × WritesFront task opener output
Causes task opener output fault.OutOfMemory =
    StopsAt end.OutOfMemory input_limit opener task.names
Causes task opener output (fault.TooLong file) =
    StopsAt (end.TooLong file) input_limit opener task.names
Causes task opener output (fault.OpenFault file) =
    StopsAt (end.OpenFault file) input_limit opener task.names

-- What is answered: to words that break the word rule at a place, that place; to a text that is no
-- query, its first fault, unless memory ran out; to a task, nothing where the text was written
-- whole, and else a fault that has its cause.
abbrev pub Answers : Result FilesTask Refusal → OpenerChange → Change
    → Option faults.FilesFault → Type 0
Answers (Err (by_word place)) opener output answer = answer ≡ Some (fault.Usage place)
Answers (Err (by_text found)) opener output answer =
    (answer ≡ Some (fault.BadQuery found.place found.kind)) ⊎ (answer ≡ Some fault.OutOfMemory)
Answers (Ok task) opener output None = Writes task opener output
Answers (Ok task) opener output (Some f) = Causes task opener output f
