-- Which lines of the threads of a run are refused. (Giltmoth's rule.)
use Rattle.std.specs.Prelude.{ℕ, Bool, true, false, List, sum_by, count_by}
use Rattle.cal_script.specs.declared.journal.LineNote.{LineNote}
use Rattle.cal_script.specs.declared.journal.Reply as replies
use Rattle.cal_script.specs.declared.journal.Reply.TheVariants as reply
use Rattle.cal_script.specs.declared.journal.ThreadNote.{ThreadNote}

-- A line with such a reply is refused. A flush that is busy isn't: nothing is lost by it.
abbrev pub is_refused : replies.Reply → Bool
is_refused (reply.Mismatch top) = true
is_refused reply.NotOpen = true
is_refused reply.TooDeep = true
is_refused reply.SlotsFull = true
is_refused _ = false

-- how many lines with these notes are refused
abbrev pub refused_of : List LineNote → ℕ
refused_of notes = count_by (λ note. is_refused note.reply) notes

-- how many lines of threads are refused
abbrev pub refused_in : List ThreadNote → ℕ
refused_in threads = sum_by (λ thread. refused_of thread.lines) threads
