-- The text of a journal.
use Rattle.std.specs.Prelude.{ℕ, ◌+◌, List, [], ◌∷◌, ◌++◌, Option, Some, None, codes, decimal}
use Rattle.std.specs.Prelude.{if◌then◌else◌}
use Rattle.std.specs.List.{flat_map}
use Rattle.cal_script.specs.declared.journal.Journal.{Journal}
use Rattle.cal_script.specs.declared.journal.LineNote.{LineNote}
use Rattle.cal_script.specs.declared.journal.Placed.{Placed}
use Rattle.cal_script.specs.declared.journal.Reply as replies
use Rattle.cal_script.specs.declared.journal.Reply.TheVariants as reply
use Rattle.cal_script.specs.declared.journal.ThreadNote.{ThreadNote}

-- a number behind a space, without leading zeros
abbrev pub spaced : ℕ → List ℕ
spaced n = 32 ∷ decimal n

-- the end of a line
abbrev pub newline : List ℕ
newline = 10 ∷ []

-- a reading behind a space
abbrev pub reading_text : Option ℕ → List ℕ
reading_text None = codes " -"
reading_text (Some n) = spaced n

-- a reply behind a space
abbrev pub reply_text : replies.Reply → List ℕ
reply_text reply.Done = codes " done"
reply_text (reply.Mismatch top) = codes " mismatch:" ++ decimal top
reply_text reply.NotOpen = codes " notopen"
reply_text reply.TooDeep = codes " toodeep"
reply_text reply.SlotsFull = codes " slotsfull"
reply_text reply.Merged = codes " merged"
reply_text (reply.Busy holder) = codes " busy:" ++ decimal holder

-- `op T L`
abbrev pub op_text : Placed → List ℕ
op_text op = codes "op" ++ spaced op.thread ++ spaced op.line ++ newline

-- `line T L REPLY SEEN R`
abbrev pub note_text : ℕ → ℕ → LineNote → List ℕ
note_text thread line note =
    codes "line" ++ spaced thread ++ spaced line ++ reply_text note.reply ++ spaced note.seen
    ++ reading_text note.reading ++ newline

-- the lines of a thread from this number on
abbrev pub notes_text : ℕ → ℕ → List LineNote → List ℕ
notes_text thread line [] = []
notes_text thread line (note ∷ notes) =
    note_text thread line note ++ notes_text thread (line + 1) notes

-- `start T R`, and the lines of the thread, numbered from 1
abbrev pub thread_text : ℕ → ThreadNote → List ℕ
thread_text thread note =
    codes "start" ++ spaced thread ++ reading_text note.start ++ newline
    ++ notes_text thread 1 note.lines

-- the threads from this number on
abbrev pub threads_text : ℕ → List ThreadNote → List ℕ
threads_text thread [] = []
threads_text thread (note ∷ notes) = thread_text thread note ++ threads_text (thread + 1) notes

-- the text of a journal (Giltmoth's rule)
abbrev pub journal_text : Journal → List ℕ
journal_text journal =
    codes "journal " ++ (if journal.real then codes "real" else codes "script") ++ newline
    ++ flat_map op_text journal.ops ++ threads_text 0 journal.threads ++ codes "end" ++ newline
