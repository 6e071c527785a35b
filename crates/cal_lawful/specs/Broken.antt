-- Which rule a journal breaks first, and on which of the input's lines. (Giltmoth's rule.) The
-- rules are tried one after another, each on the whole journal.
use Rattle.std.specs.Prelude.{◌≡◌, ◌≢◌, ℕ, ◌+◌, ◌<◌, Bool, true, false, List, [], ◌∷◌, ◌++◌, ◌⊎◌}
use Rattle.std.specs.Prelude.{length, map, take, zip, flat_map, All, slice_index_or}
use Rattle.std.specs.List.{enumerate_from}
use Rattle.cal_context.specs.Lists.{IsFront}
use Rattle.cal_journal.specs.declared.kind.JournalKind.{JournalKind}
use Rattle.cal_journal.specs.declared.kind.JournalKind.TheVariants as kind
use Rattle.cal_run.specs.Lawful.{HasOrder, IsAnswered, IsKnown, Lawful, LineIsRead, NotedLine}
use Rattle.cal_run.specs.Lawful.{SeenFixed, SeenOwn, SeenRises, SeenWithin, StartIsRead, noted_of}
use Rattle.cal_run.specs.Lawful.{placed_of, process_lines}
use Rattle.cal_lawful.specs.declared.shape.RowName.{RowName}
use Rattle.cal_script.specs.declared.journal.Journal.{Journal}
use Rattle.cal_script.specs.declared.journal.JournalText.{JournalText}
use Rattle.cal_script.specs.declared.journal.Placed.{Placed}
use Rattle.cal_script.specs.declared.journal.RowMark.{RowMark}
use Rattle.cal_script.specs.declared.journal.ThreadNote.{ThreadNote}
use Rattle.cal_script.specs.declared.script.Line as lines
use Rattle.cal_script.specs.declared.script.Script.{Script}
use Rattle.std.specs.Prelude.{slice_get, Some}

-- A rule holds of what stands before this place, and not with what stands there.
pub record BreaksAt {A : Type 0} (Keeps : List A → Type 0) (xs : List A) (place : ℕ) : Type 0 where
  pub within : place < length xs
  pub kept : Keeps (take place xs)
  pub broken : ¬ Keeps (take (place + 1) xs)

-- ---- the shape: what the `start` and `line` lines say they are of

-- the rows that the lines of a thread have, from this number on
abbrev pub line_rows : (thread number : ℕ) → List lines.Line → List RowName
line_rows thread number [] = []
line_rows thread number (l ∷ ls) =
    record { start = false; thread = thread; number = number } ∷ line_rows thread (number + 1) ls

-- the rows that a script has: a start of each thread, and each of its lines
abbrev pub rows_from : (thread : ℕ) → List (List lines.Line) → List RowName
rows_from thread [] = []
rows_from thread (ls ∷ threads) = record { start = true; thread = thread; number = 0 }
    ∷ line_rows thread 1 ls ++ rows_from (thread + 1) threads

abbrev pub wanted_rows : Script → List RowName
wanted_rows script = rows_from 0 script.threads

-- which of a journal's rows are starts
abbrev pub starts_of : List ThreadNote → List Bool
starts_of [] = []
starts_of (note ∷ notes) = true ∷ map (λ _. false) note.lines ++ starts_of notes

-- where a row stands, and of what it says it is
abbrev pub no_mark : RowMark
no_mark = record { line = 0; thread = 0; number = 0 }

abbrev pub mark_at : JournalText → (row : ℕ) → RowMark
mark_at text row = slice_index_or text.marks.rows row no_mark

abbrev pub row_line : JournalText → (row : ℕ) → ℕ
row_line text row = (mark_at text row).line

-- what a row says, if it is a start, or isn't
abbrev pub written_row : JournalText → (row : ℕ) → Bool → RowName
written_row text row start = record {
  start = start;
  thread = (mark_at text row).thread;
  number = (mark_at text row).number;
}

-- the rows of a journal, from this place on
abbrev pub written_from : JournalText → (row : ℕ) → List Bool → List RowName
written_from text row [] = []
written_from text row (start ∷ starts) =
    written_row text row start ∷ written_from text (row + 1) starts

abbrev pub written_rows : JournalText → List RowName
written_rows text = written_from text 0 (starts_of text.journal.threads)

-- A row stands where another belongs, or rows are missing at the end.
abbrev pub BreaksShape : JournalText → (written wanted : List RowName) → (line : ℕ) → Type 0
BreaksShape text written wanted line =
    ((row : ℕ) × BreaksAt (λ rows. IsFront rows wanted) written row × (line ≡ row_line text row))
    ⊎ (IsFront written wanted × (written ≢ wanted) × (line ≡ text.marks.end))

-- the input's line of an operation
abbrev pub op_line : JournalText → (place : ℕ) → ℕ
op_line text place = slice_index_or text.marks.ops place 0

-- ---- the order of the history

-- Each thread has its first process lines in it, in line order.
abbrev pub HasBegun : Script → List Placed → Type 0
HasBegun script history = (thread : ℕ) (ls : List lines.Line)
    → slice_get script.threads thread ≡ Some ls
    → IsFront (placed_of thread history) (process_lines script ls)

-- ---- the rows

-- a start of a thread, or a line with its note
pub data Row : Type 0 where
  Start : ThreadNote → Row
  Noted : NotedLine → Row

module _ (script : Script) (journal : Journal) where
  abbrev pub thread_rows : ℕ × (List lines.Line × ThreadNote) → List Row
  thread_rows thread = Start thread.1.1 ∷ map Noted (noted_of script journal.ops thread)

  -- the rows of a journal that has its script's shape
  abbrev pub all_rows : List Row
  all_rows = flat_map thread_rows (enumerate_from 0 (zip script.threads journal.threads))

  -- Each rule from SeenFalls on is one of lines; a reading is taken at a start too.
  abbrev pub KeepsLine : JournalKind → NotedLine → Type 0
  KeepsLine kind.SeenFalls n = SeenRises script journal n
  KeepsLine kind.SeenPast n = SeenWithin script journal n
  KeepsLine kind.SeenOwn n = SeenOwn script journal n
  KeepsLine kind.SeenFixed n = SeenFixed script journal n
  KeepsLine kind.Reading n = LineIsRead script journal n
  KeepsLine kind.Reply n = IsAnswered script journal n
  KeepsLine _ n = Unit {0}

  abbrev pub KeepsStart : JournalKind → ThreadNote → Type 0
  KeepsStart kind.Reading note = StartIsRead script journal note
  KeepsStart _ note = Unit {0}

  abbrev pub KeepsRow : JournalKind → Row → Type 0
  KeepsRow rule (Start note) = KeepsStart rule note
  KeepsRow rule (Noted n) = KeepsLine rule n

  abbrev pub AllKeep : JournalKind → List Row → Type 0
  AllKeep rule rows = All (KeepsRow rule) rows

-- ---- the rules

-- the rules, in the order in which they are tried; Form, Cut and After are the reader's
abbrev pub rules : List JournalKind
rules = kind.Shape ∷ kind.OpStranger ∷ kind.OpOrder ∷ kind.SeenFalls ∷ kind.SeenPast ∷ kind.SeenOwn
    ∷ kind.SeenFixed ∷ kind.Reading ∷ kind.Reply ∷ []

module _ (script : Script) (text : JournalText) where
  -- a rule holds of the journal
  abbrev pub HoldsRule : JournalKind → Type 0
  HoldsRule kind.Shape = written_rows text ≡ wanted_rows script
  HoldsRule kind.OpStranger = All (IsKnown script) text.journal.ops
  HoldsRule kind.OpOrder = HasOrder script text.journal.ops
  HoldsRule rule = AllKeep script text.journal rule (all_rows script text.journal)

  -- all of these hold
  abbrev pub HoldAll : List JournalKind → Type 0
  HoldAll [] = Unit {0}
  HoldAll (rule ∷ more) = HoldsRule rule × HoldAll more

  -- An operation isn't the next process line of its thread, or some are missing at the end.
  abbrev pub BreaksOrder : (line : ℕ) → Type 0
  BreaksOrder line =
      ((place : ℕ) × BreaksAt (HasBegun script) text.journal.ops place
      × (line ≡ op_line text place))
      ⊎ (HasBegun script text.journal.ops
      × (¬ HasOrder script text.journal.ops) × (line ≡ text.marks.end))

  -- A rule is broken on this line, and on none before.
  abbrev pub BreaksRule : JournalKind → (line : ℕ) → Type 0
  BreaksRule kind.Form line = ⊥
  BreaksRule kind.Cut line = ⊥
  BreaksRule kind.After line = ⊥
  BreaksRule kind.Shape line = BreaksShape text (written_rows text) (wanted_rows script) line
  BreaksRule kind.OpStranger line =
      (place : ℕ) × BreaksAt (All (IsKnown script)) text.journal.ops place
      × (line ≡ op_line text place)
  BreaksRule kind.OpOrder line = BreaksOrder line
  BreaksRule rule line =
      (row : ℕ) × BreaksAt (AllKeep script text.journal rule) (all_rows script text.journal) row
      × (line ≡ row_line text row)

  -- The first rule that the journal breaks, and the first line on which it breaks it.
  pub record IsFirstBroken (rule : JournalKind) (line : ℕ) : Type 0 where
    pub place : ℕ
    pub is : slice_get rules place ≡ Some rule
    pub before : HoldAll (take place rules)
    pub here : BreaksRule rule line

  -- The journal is a lawful one of the script, and its rows say of what they are.
  pub record IsLawfulText : Type 0 where
    pub rows : written_rows text ≡ wanted_rows script
    pub lawful : Lawful script text.journal
