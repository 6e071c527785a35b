-- How a thread runs behind all lines before it, and is kept between two lines.
use Rattle.std.specs.Prelude.{◌≡◌, ℕ, ◌+◌, ◌≤◌, List, length, zip}
use Rattle.cal_context.specs.Taking.{TakesMore}
use Rattle.cal_context.specs.Tree.{Tree}
use Rattle.cal_run.specs.Lawful.{process_lines}
use Rattle.cal_run.specs.Plain.{note_of, notes_from, plain_history}
use Rattle.cal_run.specs.Refused.{refused_of}
use Rattle.cal_run.specs.Runs.{taken_from}
use Rattle.cal_run.specs.Steps.{ThreadState, at_start, previous_after, state_after, taken_in}
use Rattle.cal_run.specs.Threads.{IsThread}
use Rattle.cal_run.specs.Timers.{AreTimers}
use Rattle.cal_run.specs.declared.behind.Behind.{Behind}
use Rattle.cal_run.specs.declared.plain_run.ThreadEnd.{ThreadEnd}
use Rattle.cal_script.specs.declared.journal.Reply.{Reply}
use Rattle.cal_script.specs.declared.script.Channel.{Channel}
use Rattle.cal_script.specs.declared.script.Line.{Line}
use Rattle.cal_script.specs.declared.script.Script.{Script}
use Rattle.cal_value.specs.declared.record.Rec.{Rec}

-- a thread is kept: as that of a channel, with its clock, it has seen no more than stands before
-- it, and the timers are the script's
pub record IsBehind (t : Tree) (script : Script) (b : Behind) (state : ThreadState) (previous : ℕ)
    : Type 0 where
  pub thread : IsThread t script (plain_history script) b.thread state previous
  pub clock : b.clock ≡ state.clock
  pub taken_in : b.thread.process.count ≤ b.seen
  pub seen : b.seen ≤ b.before
  pub timers : AreTimers script b.timers

-- for some state
abbrev pub IsSomeBehind : Tree → Script → Behind → Type 0
IsSomeBehind t script b = (state : ThreadState) × (previous : ℕ) × IsBehind t script b state previous

-- What a line does: it is answered and noted as the plain journal says, what it takes was taken, and
-- the thread is kept as the line leaves it.
pub record RunsBehind (t : Tree) (script : Script) (was is : Behind) (channel : Channel) (l : Line)
    (reply : Reply) (had has : List Rec → Type 0) (state : ThreadState) (previous : ℕ)
    : Type 0 where
  pub answered : reply ≡ (note_of script was.before was.seen state l).reply
  pub seen : is.seen ≡ (note_of script was.before was.seen state l).seen
  pub taken : TakesMore had has (taken_in script (plain_history script) l
      (note_of script was.before was.seen state l) state channel previous)
  pub kept : IsBehind t script is
      (state_after script (plain_history script) l
      (note_of script was.before was.seen state l) state)
      (previous_after script (plain_history script) l
      (note_of script was.before was.seen state l) state channel previous)

-- what lines take in a channel behind so many operations, from a state on
abbrev pub taken_behind : Script → Channel → (before seen : ℕ) → ThreadState → (previous : ℕ)
    → List Line → List Rec
taken_behind script channel before seen state previous lines =
    taken_from script (plain_history script) channel state previous
    (zip lines (notes_from script before seen state lines))

-- A thread has run behind so many operations.
pub record HasRun (script : Script) (begun : ℕ) (lines : List Line) (end : ThreadEnd)
    : Type 0 where
  pub before : end.before ≡ begun + length (process_lines script lines)
  pub refused : end.refused ≡ refused_of (notes_from script begun 0 at_start lines)
