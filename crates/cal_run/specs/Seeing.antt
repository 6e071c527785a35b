-- What the threads of a journal have seen, as far as a run needs it: it rises, and stays within the
-- history. Every lawful journal is so.
use Rattle.std.specs.Prelude.{◌≡◌, ℕ, ◌<◌, ◌≤◌, true, List, [], ◌∷◌, length, zip, All}
use Rattle.cal_run.specs.Lawful.{HasShape}
use Rattle.cal_run.specs.Lines.{is_process_line}
use Rattle.cal_script.specs.declared.journal.Journal.{Journal}
use Rattle.cal_script.specs.declared.journal.LineNote.{LineNote}
use Rattle.cal_script.specs.declared.journal.Placed.{Placed}
use Rattle.cal_script.specs.declared.journal.ThreadNote.{ThreadNote}
use Rattle.cal_script.specs.declared.script.Line.{Line}
use Rattle.cal_script.specs.declared.script.Script.{Script}

-- A line with this note may follow one that had seen so much. A process line sees one more at
-- least, which is its own.
pub record MaySee (script : Script) (history : List Placed) (before : ℕ) (l : Line)
    (note : LineNote) : Type 0 where
  pub rises : before ≤ note.seen
  pub own : is_process_line script l ≡ true → before < note.seen
  pub within : note.seen ≤ length history

abbrev pub SeesInOrder : Script → List Placed → (before : ℕ) → List (Line × LineNote) → Type 0
SeesInOrder script history before [] = Unit {0}
SeesInOrder script history before (l ∷ ls) =
    MaySee script history before l.0 l.1 × SeesInOrder script history l.1.seen ls

-- there is a note of each line, and each thread sees in order, from nothing on
pub record CanBeRead (script : Script) (journal : Journal) : Type 0 where
  pub shape : HasShape script journal
  pub order : All (λ (t : List Line × ThreadNote).
      SeesInOrder script journal.ops 0 (zip t.0 t.1.lines)) (zip script.threads journal.threads)

-- each of these lines has seen at most so much
abbrev pub HaveSeen : ℕ → List (Line × LineNote) → Type 0
HaveSeen count ls = All (λ (l : Line × LineNote). l.1.seen ≤ count) ls
