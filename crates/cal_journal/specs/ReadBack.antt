-- Journals whose text is read again.
use Rattle.std.specs.Prelude.{◌≡◌, ℕ, ◌<◌, ◌^◌, List, [], ◌∷◌, ◌++◌, length, All, Some, IfSome}
use Rattle.cal_script.specs.declared.journal.Journal.{Journal}
use Rattle.cal_script.specs.declared.journal.LineNote.{LineNote}
use Rattle.cal_script.specs.declared.journal.Placed.{Placed}
use Rattle.cal_script.specs.declared.journal.Reply as replies
use Rattle.cal_script.specs.declared.journal.Reply.TheVariants as reply
use Rattle.cal_script.specs.declared.journal.ThreadNote.{ThreadNote}
use Rattle.cal_script.specs.declared.script.Script.{Script}
use Rattle.cal_script.specs.Lines.{lines_of}
use Rattle.cal_journal.specs.Both.{MeansBoth, SaysJournalBehind}
use Rattle.cal_journal.specs.Marks.{printed}
use Rattle.cal_journal.specs.Printing.{journal_text}

-- Numbers that their fields hold, as all numbers of a journal are that a program has.

abbrev pub HoldsReply : replies.Reply → Type 0
HoldsReply (reply.Mismatch top) = top < 2 ^ 32
HoldsReply (reply.Busy holder) = holder < 2 ^ 32
HoldsReply _ = Unit {0}

pub record HoldsNote (note : LineNote) : Type 0 where
  pub reply : HoldsReply note.reply
  pub seen : note.seen < 2 ^ 64
  pub reading : IfSome note.reading (λ n. n < 2 ^ 64)

pub record HoldsThread (note : ThreadNote) : Type 0 where
  pub start : IfSome note.start (λ n. n < 2 ^ 64)
  pub lines : All HoldsNote note.lines
  pub few : length note.lines < 2 ^ 63

pub record HoldsOp (op : Placed) : Type 0 where
  pub thread : op.thread < 2 ^ 32
  pub line : op.line < 2 ^ 32

pub record HoldsJournal (journal : Journal) : Type 0 where
  pub ops : All HoldsOp journal.ops
  pub threads : All HoldsThread journal.threads
  pub few : length journal.threads < 2 ^ 63

-- Behind so many lines of an input, the text of a journal says this journal, with its marks.
abbrev pub IsReadBack : ℕ → Journal → Type 0
IsReadBack before journal =
    SaysJournalBehind before (lines_of (journal_text journal)) (Some (printed before journal))

-- Each line of these bytes ends with a newline, the last one too.
abbrev pub EndsItsLines : List ℕ → Type 0
EndsItsLines [] = Unit {0}
EndsItsLines (byte ∷ []) = byte ≡ 10
EndsItsLines (byte ∷ next ∷ bytes) = EndsItsLines (next ∷ bytes)

-- The bytes of a script, and behind them the text of a journal, mean both, the journal with its
-- marks.
abbrev pub IsReadBehind : List ℕ → Script → Journal → Type 0
IsReadBehind bytes script journal = MeansBoth (bytes ++ journal_text journal)
    (script, Some (printed (length (lines_of bytes)) journal))
