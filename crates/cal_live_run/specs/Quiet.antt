-- Runs in which no flush met another thread's turn.
use Rattle.std.specs.Prelude.{ℕ, ◌<◌, List, length}
use Rattle.cal_notes.specs.Together.{HasFlushed, RanLines}
use Rattle.cal_script.specs.declared.journal.Journal.{Journal}
use Rattle.cal_script.specs.declared.journal.Reply.TheVariants as reply
use Rattle.cal_script.specs.declared.journal.ThreadNote.{ThreadNote}
use Rattle.cal_script.specs.declared.script.Line.{Line}
use Rattle.cal_script.specs.declared.script.Script.{Script}

-- by a journal no flush of a channel was answered busy
abbrev pub IsQuiet : Script → Journal → Type 0
IsQuiet script journal = (thread : ℕ) (ls : List Line) (note : ThreadNote)
    → RanLines script journal thread ls note → (channel holder : ℕ)
    → channel < length script.channels → HasFlushed channel (reply.Busy holder) ls note → ⊥
