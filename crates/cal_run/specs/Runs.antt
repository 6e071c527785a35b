-- What threads take over all their lines.
use Rattle.std.specs.Prelude.{ℕ, List, [], ◌∷◌, ◌++◌, flat_map, unwrap_or, zip}
use Rattle.cal_run.specs.Steps.{ThreadState, at_start, previous_after, state_after, taken_in}
use Rattle.cal_script.specs.declared.journal.Journal.{Journal}
use Rattle.cal_script.specs.declared.journal.LineNote.{LineNote}
use Rattle.cal_script.specs.declared.journal.Placed.{Placed}
use Rattle.cal_script.specs.declared.journal.ThreadNote.{ThreadNote}
use Rattle.cal_script.specs.declared.script.Channel.{Channel}
use Rattle.cal_script.specs.declared.script.Line.{Line}
use Rattle.cal_script.specs.declared.script.Script.{Script}
use Rattle.cal_value.specs.declared.record.Rec.{Rec}

module _ (script : Script) (history : List Placed) where
  -- a thread's state after lines with these notes
  abbrev pub state_after_lines : ThreadState → List (Line × LineNote) → ThreadState
  state_after_lines state [] = state
  state_after_lines state (l ∷ ls) =
      state_after_lines (state_after script history l.0 l.1 state) ls

  -- what lines with these notes take in a channel, from a state and a reading of before on
  abbrev pub taken_from : Channel → ThreadState → (previous : ℕ) → List (Line × LineNote) → List Rec
  taken_from channel state previous [] = []
  taken_from channel state previous (l ∷ ls) =
      taken_in script history l.0 l.1 state channel previous
      ++ taken_from channel (state_after script history l.0 l.1 state)
      (previous_after script history l.0 l.1 state channel previous) ls

  -- what a thread takes in a channel, whose first reading before is the start reading
  abbrev pub taken_by_thread : Channel → List Line × ThreadNote → List Rec
  taken_by_thread channel thread = taken_from channel at_start (unwrap_or thread.1.start 0)
      (zip thread.0 thread.1.lines)

-- The snapshots of a channel: the threads in order, and each thread's in line order. (Giltmoth's
-- order.)
abbrev pub snapshots : Script → Journal → Channel → List Rec
snapshots script journal channel =
    flat_map (taken_by_thread script journal.ops channel) (zip script.threads journal.threads)
