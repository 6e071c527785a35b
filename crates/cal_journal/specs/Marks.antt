-- Where the lines of a printed journal stand in its input.
use Rattle.std.specs.Prelude.{ℕ, ◌+◌, List, [], ◌∷◌, ◌++◌, length}
use Rattle.std.specs.List.{range_with_len}
use Rattle.cal_script.specs.declared.journal.Journal.{Journal}
use Rattle.cal_script.specs.declared.journal.JournalText.{JournalText}
use Rattle.cal_script.specs.declared.journal.LineNote.{LineNote}
use Rattle.cal_script.specs.declared.journal.RowMark.{RowMark}
use Rattle.cal_script.specs.declared.journal.ThreadNote.{ThreadNote}

-- Marks of rows that stand line by line, the first on this line: a thread's notes, from this number
-- on, and threads, from this number on, each a start with the number 0 and then its notes from 1.

abbrev pub note_marks : (line thread number : ℕ) → List LineNote → List RowMark
note_marks line thread number [] = []
note_marks line thread number (note ∷ notes) =
    record { line = line; thread = thread; number = number }
    ∷ note_marks (line + 1) thread (number + 1) notes

abbrev pub thread_marks : (line thread : ℕ) → List ThreadNote → List RowMark
thread_marks line thread [] = []
thread_marks line thread (note ∷ notes) =
    record { line = line; thread = thread; number = 0 }
    ∷ (note_marks (line + 1) thread 1 note.lines
    ++ thread_marks (line + (1 + length note.lines)) (thread + 1) notes)

-- The journal with its marks, as it is printed behind so many lines of an input: its first line, the
-- history, the threads, and the end.
abbrev pub printed : ℕ → Journal → JournalText
printed before journal =
    let ops = before + 2 in
    let rows = ops + length journal.ops in
    let marks = thread_marks rows 0 journal.threads in
    record {
      journal = journal;
      marks = record {
        ops = range_with_len ops (length journal.ops);
        rows = marks;
        end = rows + length marks;
      };
    }
