-- How the threads are walked one after another, to count what channels take and what boards hold
-- (private).
use Rattle.std.specs.Prelude.{◌≡◌, ℕ, ◌+◌, Bool, true, ◌&&◌, List, take, zip, sum_by, count_by}
use Rattle.cal_context.specs.Tree.{Tree}
use Rattle.cal_run.specs.Counting.{is_noted_taken}
use Rattle.cal_run.specs.Held.{Holds}
use Rattle.cal_run.specs.Holding.{HoldsPaths}
use Rattle.cal_run.specs.Paths.{held_behind, held_by_process, own_operation}
use Rattle.cal_run.specs.Plain.{note_of, notes_from, plain_history}
use Rattle.cal_run.specs.Steps.{ThreadState, at_start, state_after}
use Rattle.cal_run.specs.declared.walking.Walk.{Walk}
use Rattle.cal_board.specs.Blackboard.{Blackboard}
use Rattle.cal_context.specs.declared.numbers.NodeNumber.{NodeNumber}
use Rattle.cal_script.specs.declared.journal.LineNote.{LineNote}
use Rattle.cal_script.specs.declared.journal.Placed.{Placed}
use Rattle.cal_script.specs.declared.journal.ThreadNote.{ThreadNote}
use Rattle.cal_script.specs.declared.script.Channel.{Channel}
use Rattle.cal_script.specs.declared.script.Line.{Line}
use Rattle.cal_script.specs.declared.script.Script.{Script}
use Rattle.cal_value.specs.declared.attribute.Entry.{Entry}

-- every channel, and those with trace
abbrev pub every : Channel → Bool
every channel = true

abbrev pub has_trace : Channel → Bool
has_trace channel = channel.trace

module _ (script : Script) where
  -- how many of such channels take a snapshot on a line with this note
  abbrev pub takers : (Channel → Bool) → Line × LineNote → ℕ
  takers such l =
      count_by (λ channel. such channel && is_noted_taken script channel l) script.channels

  -- and on all lines of a thread, and of threads
  abbrev pub taken_on : (Channel → Bool) → List Line × ThreadNote → ℕ
  taken_on such thread = sum_by (takers such) (zip thread.0 thread.1.lines)

  abbrev pub taken_by : (Channel → Bool) → List (List Line × ThreadNote) → ℕ
  taken_by such threads = sum_by (taken_on such) threads

  -- on the lines of a thread that runs behind so many operations
  abbrev pub noted_by : (Channel → Bool) → List Line → (before : ℕ) → ℕ
  noted_by such lines before =
      sum_by (takers such) (zip lines (notes_from script before 0 at_start lines))

  -- the paths that the process's board held behind the first operations of a history
  abbrev pub held_to : List Placed → ℕ → List (List Entry)
  held_to history count = held_by_process script (take count history)

-- What a line does to a walk: the thread's board is as the line leaves it, what it holds behind the
-- line is held, and the channels that take a snapshot are counted.
pub record WalksLine (was is : Tree) (script : Script) (l : Line) (old new : Walk)
    (board : Blackboard NodeNumber) (state : ThreadState) (seen : ℕ) : Type 0 where
  pub kept : Holds is script board (state_after script (plain_history script) l
      (note_of script old.process.count seen state l) state).board
  pub own : HoldsPaths was is old.own.nodes new.own.nodes
      (held_behind script state.board (own_operation script l))
  pub in_all : new.in_all ≡ old.in_all
      + takers script every (l, note_of script old.process.count seen state l)
  pub traced : new.traced ≡ old.traced
      + takers script has_trace (l, note_of script old.process.count seen state l)
