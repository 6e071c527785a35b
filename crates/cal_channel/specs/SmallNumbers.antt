-- Why the numbers that a running thread's snapshots show are of 64 bits: what stands on the boards
-- of a run are values of its script, whose numbers are.
use Rattle.std.specs.Prelude.{ℕ, List, [], take, slice_index_or}
use Rattle.cal_board.specs.Blackboard.{Blackboard}
use Rattle.cal_run.proofs.FitLemmas.{FitsBoard}
use Rattle.cal_run.specs.History.{process_board}
use Rattle.cal_run.specs.Snapshots.{Sight}
use Rattle.cal_run.specs.Steps.{ThreadState}
use Rattle.cal_script.specs.Valid.{IsPlaced}
use Rattle.cal_script.specs.declared.journal.Placed.{Placed}
use Rattle.cal_script.specs.declared.script.Line.{Line}
use Rattle.cal_script.specs.declared.script.Script.{Script}
use Rattle.cal_value.specs.declared.variant.Variant.{Variant}

-- a line that a script may have
abbrev pub IsLineOf : Script → Line → Type 0
IsLineOf script l = IsPlaced script.attributes script.channels script.values l

-- Each value on a board is one that a line of the script may say of its attribute, in whose slot it
-- stands. So its number, if it is one, is of 64 bits.
abbrev pub HasSaidValues : Script → Blackboard Variant → Type 0
HasSaidValues script b = FitsBoard script b

-- the first lines of a thread
abbrev pub first_lines : Script → (thread many : ℕ) → List Line
first_lines script thread many = take many (slice_index_or script.threads thread [])

-- what a snapshot sees behind a state of its thread, and behind so many operations of a history
abbrev pub sight_behind : Script → List Placed → (seen : ℕ) → ThreadState
    → (reading previous : ℕ) → Sight
sight_behind script history seen state reading previous = record {
  mine = state.board;
  process = process_board script history seen;
  readings = state.readings;
  reading = reading;
  previous = previous;
}
