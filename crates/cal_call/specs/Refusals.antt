-- Which lines of a journal were refused. (Giltmoth's rule.)
use Rattle.std.specs.Prelude.{ℕ, ◌≤◌, Bool, true, false, [], length, sum_by, count_by}
use Rattle.cal_script.specs.declared.journal.Journal.{Journal}
use Rattle.cal_script.specs.declared.journal.Reply as replies
use Rattle.cal_script.specs.declared.journal.Reply.TheVariants as reply
use Rattle.cal_script.specs.declared.journal.ThreadNote.{ThreadNote}

-- the journal of no run
abbrev pub no_journal : Journal
no_journal = record { real = false; ops = []; threads = [] }

-- A line with such a reply was refused. A flush that is busy isn't: nothing is lost by it.
abbrev pub is_refusal : replies.Reply → Bool
is_refusal (reply.Mismatch top) = true
is_refusal reply.NotOpen = true
is_refusal reply.TooDeep = true
is_refusal reply.SlotsFull = true
is_refusal _ = false

-- how many lines of a thread were refused
abbrev pub refused_of : ThreadNote → ℕ
refused_of thread = count_by (λ note. is_refusal note.reply) thread.lines

-- how many lines were refused in all
abbrev pub refused_lines : Journal → ℕ
refused_lines journal = sum_by refused_of journal.threads

-- no more lines than a script may have (private)
abbrev pub HasFewLines : Journal → Type 0
HasFewLines journal = sum_by (λ thread. length thread.lines) journal.threads ≤ 1048576
