-- How what an opener tells of the names decides what `files` answers.
use Rattle.std.specs.Prelude.{◌≡◌, ◌≢◌, ℕ, ◌+◌, ◌<◌, ◌≤◌, ◌↔◌, List, length, take}
use Rattle.std.specs.Prelude.{Option, None, Some, Result, Ok, Err}
use Rattle.std.specs.List.{All, AllZip}
use Rattle.cal_base.specs.Change.{Change, HasFailed}
use Rattle.cal_call.specs.Causes.{input_limit}
use Rattle.cal_files.specs.Files.{bytes_of_all}
use Rattle.cal_files.specs.OpenerChange.{HasFailedToOpen, HasFailedToRead, OpenerChange}
use Rattle.cal_multi.specs.Many.{IsFirstBad, IsSound}
use Rattle.cal_read.specs.declared.kind.StreamKind.{StreamKind}
use Rattle.cal_call_files.specs.Tasks.{FilesTask, Refusal, by_text, by_word}
use Rattle.cal_call_files.specs.declared.fault.FilesFault as faults
use Rattle.cal_call_files.specs.declared.fault.FilesFault.TheVariants as fault

-- an opener tells the bytes of each of these names: those of the file at its place
abbrev pub AreTold : (List ℕ → Option (List ℕ)) → List (List ℕ) → List (List ℕ) → Type 0
AreTold content names files = AllZip (λ name file. content name ≡ Some file) names files

-- the files have more bytes than the limit, and those before this one have not
abbrev pub PassesIn : List (List ℕ) → ℕ → Type 0
PassesIn files file = (file < length files)
    × (bytes_of_all (take file files) ≤ input_limit)
    × (input_limit < bytes_of_all (take (file + 1) files))

-- The answer is the one that these files call for: they are too long, from one of them on, or have
-- a first fault, or are streams, of which the text is written whole unless the output fails.
pub record IsDue (files : List (List ℕ)) (output : Change) (answer : Option faults.FilesFault)
    : Type 0 where
  pub too_long : (file : ℕ) → (answer ≡ Some (fault.TooLong file)) ↔ PassesIn files file
  pub bad_input : (file line : ℕ) (kind : StreamKind)
      → (answer ≡ Some (fault.BadInput file line kind))
      ↔ ((bytes_of_all files ≤ input_limit) × IsFirstBad files file line kind)
  pub whole : (HasFailed output → ⊥)
      → (answer ≡ None) ↔ ((bytes_of_all files ≤ input_limit) × All IsSound files)

-- Where memory doesn't run out, a text that is no query decides the answer; and where a task is
-- asked for and no opening and no read fails, so do the files of an opener that tells them.
abbrev pub FilesDecide : Result FilesTask Refusal → OpenerChange → Change
    → Option faults.FilesFault → Type 0
FilesDecide (Err (by_word place)) opener output answer = Unit {0}
FilesDecide (Err (by_text found)) opener output answer =
    answer ≢ Some fault.OutOfMemory → answer ≡ Some (fault.BadQuery found.place found.kind)
FilesDecide (Ok task) opener output answer =
    (HasFailedToOpen opener → ⊥) → (HasFailedToRead opener → ⊥)
    → answer ≢ Some fault.OutOfMemory
    → (files : List (List ℕ)) → AreTold opener.content task.names files
    → IsDue files output answer
