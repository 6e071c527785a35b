-- The rows of a printed journal of a script's shape say of what they are.
use Rattle.std.proofs.Common.{◌≡◌, ℕ, ◌+◌, Bool, false, true, List, [], ◌∷◌, ◌++◌, length}
use Rattle.std.proofs.Common.{map, refl, sym, ap, ◌∙◌, append_assoc, length-append, slice_index_or, arith}
use Rattle.std.specs.List.{AllZip}
use Rattle.cal_journal.specs.Marks.{note_marks, printed, thread_marks}
use Rattle.cal_lawful.specs.Broken.{IsLawfulText, line_rows, mark_at, no_mark, rows_from, starts_of}
use Rattle.cal_lawful.specs.Broken.{written_from}
use Rattle.cal_run.specs.Lawful.{Lawful}
use Rattle.cal_script.specs.declared.journal.Journal.{Journal}
use Rattle.cal_script.specs.declared.journal.JournalText.{JournalText}
use Rattle.cal_script.specs.declared.journal.LineNote.{LineNote}
use Rattle.cal_script.specs.declared.journal.RowMark.{RowMark}
use Rattle.cal_script.specs.declared.journal.ThreadNote.{ThreadNote}
use Rattle.cal_script.specs.declared.script.Line.{Line}
use Rattle.cal_script.specs.declared.script.Script.{Script}

at_seam : (front rest : List RowMark) (mark : RowMark)
    → slice_index_or (front ++ mark ∷ rest) (length front) no_mark ≡ mark
at_seam [] rest mark = refl
at_seam (m ∷ front) rest mark = at_seam front rest mark

length-note_marks : (line thread number : ℕ) (notes : List LineNote)
    → length (note_marks line thread number notes) ≡ length notes
length-note_marks line thread number [] = refl
length-note_marks line thread number (note ∷ notes) =
    let rest = length-note_marks (line + 1) thread (number + 1) notes in omega (arith, rest)

module _ (text : JournalText) where
  -- the mark of a row behind those in front
  mark-behind : (front rest : List RowMark) (mark : RowMark) (row : ℕ) → row ≡ length front
      → text.marks.rows ≡ front ++ mark ∷ rest → mark_at text row ≡ mark
  mark-behind front rest mark row here is =
      (λ i. slice_index_or (is i) (here i) no_mark) ∙ at_seam front rest mark

  -- the rows behind one row more
  one_more : (front rest : List RowMark) (mark : RowMark)
      → text.marks.rows ≡ front ++ mark ∷ rest
      → text.marks.rows ≡ (front ++ mark ∷ []) ++ rest
  one_more front rest mark is = is ∙ sym (append_assoc front (mark ∷ []) rest)

  next_row : (front : List RowMark) (mark : RowMark) (row : ℕ) → row ≡ length front
      → row + 1 ≡ length (front ++ mark ∷ [])
  next_row front mark row here = omega (arith, here, length-append front (mark ∷ []))

  -- the rows of a thread's lines, and then the others
  written_lines : (front more : List RowMark) (line thread number row stop : ℕ)
      (notes : List LineNote) (ls : List Line) (starts : List Bool)
      → length notes ≡ length ls → row ≡ length front → stop ≡ row + length notes
      → text.marks.rows ≡ front ++ (note_marks line thread number notes ++ more)
      → written_from text row (map (λ _. false) notes ++ starts)
      ≡ line_rows thread number ls ++ written_from text stop starts
  written_lines front more line thread number row stop [] [] starts same here ends is =
      let e : row ≡ stop = omega (arith, ends) in (λ i. written_from text (e i) starts)
  written_lines front more line thread number row stop [] (l ∷ ls) starts same here ends is =
      absurd (omega (arith, same))
  written_lines front more line thread number row stop (n ∷ ns) [] starts same here ends is =
      absurd (omega (arith, same))
  written_lines front more line thread number row stop (n ∷ ns) (l ∷ ls) starts same here ends is =
      let mark : RowMark = record { line = line; thread = thread; number = number } in
      let behind : List RowMark = note_marks (line + 1) thread (number + 1) ns ++ more in
      let first : mark_at text row ≡ mark = mark-behind front behind mark row here is in
      let rest =
      written_lines (front ++ mark ∷ []) more (line + 1) thread (number + 1) (row + 1) stop ns ls
      starts (omega (arith, same)) (next_row front mark row here) (omega (arith, ends))
      (one_more front behind mark is) in
      (λ i. record { start = false; thread = (first i).thread; number = (first i).number } ∷ rest i)

  -- the rows of threads
  written_threads : (front : List RowMark) (line thread row : ℕ) (notes : List ThreadNote)
      (threads : List (List Line)) → row ≡ length front
      → AllZip (λ (ls : List Line) (note : ThreadNote). length note.lines ≡ length ls) threads notes
      → text.marks.rows ≡ front ++ thread_marks line thread notes
      → written_from text row (starts_of notes) ≡ rows_from thread threads
  written_threads front line thread row [] [] here shape is = refl
  written_threads front line thread row [] (ls ∷ threads) here shape is = absurd shape
  written_threads front line thread row (note ∷ notes) [] here shape is = absurd shape
  written_threads front line thread row (note ∷ notes) (ls ∷ threads) here shape is =
      let mark : RowMark = record { line = line; thread = thread; number = 0 } in
      let own : List RowMark = note_marks (line + 1) thread 1 note.lines in
      let more : List RowMark =
      thread_marks (line + (1 + length note.lines)) (thread + 1) notes in
      let first : mark_at text row ≡ mark = mark-behind front (own ++ more) mark row here is in
      let behind = one_more front (own ++ more) mark is in
      let stop : ℕ = row + 1 + length note.lines in
      let next = next_row front mark row here in
      let lines =
      written_lines (front ++ mark ∷ []) more (line + 1) thread 1 (row + 1) stop note.lines ls
      (starts_of notes) shape.0 next refl behind in
      let many : stop ≡ length ((front ++ mark ∷ []) ++ own) =
      omega (
        arith,
        next,
        length-append (front ++ mark ∷ []) own,
        length-note_marks (line + 1) thread 1 note.lines,
      ) in
      let rest =
      written_threads ((front ++ mark ∷ []) ++ own) (line + (1 + length note.lines)) (thread + 1)
      stop notes threads many shape.1
      (behind ∙ sym (append_assoc (front ++ mark ∷ []) own more)) in
      (λ i. record { start = true; thread = (first i).thread; number = (first i).number }
      ∷ (lines ∙ ap (λ rows. line_rows thread 1 ls ++ rows) rest) i)

-- a lawful journal, printed behind so many lines, is a lawful text
pub lawful_text : (script : Script) (journal : Journal) (before : ℕ) → Lawful script journal
    → IsLawfulText script (printed before journal)
lawful_text script journal before lawful = record {
  rows = written_threads (printed before journal) [] (before + 2 + length journal.ops) 0 0
      journal.threads script.threads refl lawful.shape refl;
  lawful = lawful;
}
