-- Journals in which no flush met another thread's turn.
use Rattle.std.specs.Prelude.{◌≡◌, Bool, true, false, All}
use Rattle.cal_script.specs.declared.journal.Journal.{Journal}
use Rattle.cal_script.specs.declared.journal.LineNote.{LineNote}
use Rattle.cal_script.specs.declared.journal.Reply as replies
use Rattle.cal_script.specs.declared.journal.Reply.TheVariants as reply
use Rattle.cal_script.specs.declared.journal.ThreadNote.{ThreadNote}

abbrev pub is_busy : replies.Reply → Bool
is_busy (reply.Busy holder) = true
is_busy _ = false

-- no line of the thread was answered busy
abbrev pub IsQuietThread : ThreadNote → Type 0
IsQuietThread thread = All (λ (note : LineNote). is_busy note.reply ≡ false) thread.lines

-- no line of a run was
abbrev pub IsQuiet : Journal → Type 0
IsQuiet journal = All IsQuietThread journal.threads
