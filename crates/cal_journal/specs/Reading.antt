-- What each line of a journal makes of the lines before it.
use Rattle.std.specs.Prelude.{ℕ, ◌+◌, Bool, false, List, [], ◌∷◌, ◌++◌, length, Option}
use Rattle.std.specs.Prelude.{Some, None, Result, Ok, Err, codes, is_some, is_none, unwrap_or}
use Rattle.std.specs.Prelude.{not, ◌==◌, if◌then◌else◌, option_to_list}
use Rattle.std.specs.Option.{ok_or, option_and_then}
use Rattle.std.specs.Str.{bytes_eq, is_utf8}
use Rattle.cal_script.specs.declared.journal.JournalText.{JournalText}
use Rattle.cal_script.specs.declared.journal.LineNote.{LineNote}
use Rattle.cal_script.specs.declared.journal.Placed.{Placed}
use Rattle.cal_script.specs.declared.journal.RowMark.{RowMark}
use Rattle.cal_script.specs.declared.journal.ThreadNote.{ThreadNote}
use Rattle.cal_script.specs.Lines.{words_of}
use Rattle.cal_journal.specs.declared.kind.JournalKind.{JournalKind}
use Rattle.cal_journal.specs.declared.kind.JournalKind.TheVariants.{Form, After}
use Rattle.cal_journal.specs.Words.{clock_said, long_number, reading_said, reply_said, short_number}

infixl 10 ◌>>=◌
abbrev pub ◌>>=◌ : {A B : Type 0} → Option A → (A → Option B) → Option B
found >>= next = option_and_then next found

-- What stands so far.
pub record State : Type 0 where
  -- the input's lines so far
  pub line : ℕ
  -- whether the clock is real, where the first line has told it
  pub clock : Option Bool
  -- the history, and the lines on which it stands
  pub ops : List Placed
  pub op_lines : List ℕ
  -- the threads before the last, and the last
  pub earlier : List ThreadNote
  pub thread : Option ThreadNote
  -- where the `start` and `line` lines stand
  pub rows : List RowMark
  -- the line of `end`
  pub end : Option ℕ

-- behind so many lines, before the journal's first
abbrev pub begin_at : ℕ → State
begin_at line = record {
  line = line;
  clock = None;
  ops = [];
  op_lines = [];
  earlier = [];
  thread = None;
  rows = [];
  end = None;
}

-- where a row stands, and what it says it is of
abbrev pub with_mark : ℕ → ℕ → State → State
with_mark thread number state = record state {
  rows = state.rows ++ record { line = state.line; thread = thread; number = number } ∷ [];
}

-- `journal CLOCK` stands first
abbrev pub journal_after : State → List (List ℕ) → Option State
journal_after state words =
    if is_some state.clock then None
    else (do
      real ← clock_said words
      Some (record state { clock = Some real }))

-- `op T L`, before the first thread
abbrev pub op_said : List (List ℕ) → Option Placed
op_said (thread ∷ line ∷ []) = do
  thread ← short_number thread
  line ← short_number line
  Some (record { thread = thread; line = line })
op_said _ = None

abbrev pub op_after : State → List (List ℕ) → Option State
op_after state words =
    if is_some state.thread then None
    else (do
      op ← op_said words
      Some (record state {
        ops = state.ops ++ op ∷ [];
        op_lines = state.op_lines ++ state.line ∷ [];
      }))

-- `start T R`
abbrev pub start_said : List (List ℕ) → Option (ℕ × Option ℕ)
start_said (thread ∷ reading ∷ []) = do
  thread ← long_number thread
  reading ← reading_said reading
  Some (thread, reading)
start_said _ = None

-- the threads with a new last one
abbrev pub begun : Option ℕ → State → State
begun start state = record state {
  earlier = state.earlier ++ option_to_list state.thread;
  thread = Some (record { start = start; lines = [] });
}

abbrev pub start_after : State → List (List ℕ) → Option State
start_after state words = do
  said ← start_said words
  Some (with_mark said.0 0 (begun said.1 state))

-- `line T L REPLY SEEN R`, behind a `start`
abbrev pub five_words : List (List ℕ) → Option (List ℕ × List ℕ × List ℕ × List ℕ × List ℕ)
five_words (thread ∷ number ∷ reply ∷ seen ∷ reading ∷ []) =
    Some (thread, number, reply, seen, reading)
five_words _ = None

abbrev pub note_said : List ℕ → List ℕ → List ℕ → Option LineNote
note_said reply seen reading = do
  reply ← reply_said reply
  seen ← long_number seen
  reading ← reading_said reading
  Some (record { reply = reply; seen = seen; reading = reading })

abbrev pub line_said : List (List ℕ) → Option (ℕ × ℕ × LineNote)
line_said words = do
  five ← five_words words
  thread ← long_number five.0
  number ← long_number five.1
  note ← note_said five.2 five.3 five.4
  Some (thread, number, note)

-- a thread with one note more
abbrev pub with_note : LineNote → ThreadNote → ThreadNote
with_note note thread = record thread { lines = thread.lines ++ note ∷ [] }

abbrev pub row_after : State → List (List ℕ) → Option State
row_after state words = do
  thread ← state.thread
  said ← line_said words
  Some (with_mark said.0 said.1 (record state { thread = Some (with_note said.2 thread) }))

-- `end`
abbrev pub end_after : State → List (List ℕ) → Option State
end_after state [] = Some (record state { end = Some state.line })
end_after state (word ∷ words) = None

-- a line goes by its first word, and none stands before the clock
abbrev pub words_after : State → List (List ℕ) → Option State
words_after state [] = None
words_after state (word ∷ words) =
    if bytes_eq word (codes "journal") then journal_after state words
    else (if is_none state.clock then None
    else (if bytes_eq word (codes "op") then op_after state words
    else (if bytes_eq word (codes "start") then start_after state words
    else (if bytes_eq word (codes "line") then row_after state words
    else (if bytes_eq word (codes "end") then end_after state words
    else None)))))

-- the next of the input's lines
abbrev pub next_line : State → State
next_line state = record state { line = state.line + 1 }

-- A blank line says nothing; no other line follows `end`.
unfoldable pub line_after : State → List ℕ → Result State JournalKind
line_after state line =
    if length line == 0 then Ok (next_line state)
    else (if is_some state.end then Err After
    else (if not (is_utf8 line) then Err Form
    else ok_or (words_after (next_line state) (words_of line)) Form))

-- the journal that lines say, with the line of its end
abbrev pub journal_of : State → ℕ → JournalText
journal_of state end = record {
  journal = record {
    real = unwrap_or state.clock false;
    ops = state.ops;
    threads = state.earlier ++ option_to_list state.thread;
  };
  marks = record { ops = state.op_lines; rows = state.rows; end = end };
}
