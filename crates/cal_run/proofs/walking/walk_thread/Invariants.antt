use Rattle.std.proofs.Common.{◌≡◌, ℕ, ◌+◌, ◌*◌, ◌≤◌, List, ◌++◌, drop, length, map}
use Rattle.std.specs.Prelude.{sum_by, zip}
use Rattle.cal_context.specs.Tree.{Grows}
use Rattle.cal_run.specs.Held.{Holds, IsProcess}
use Rattle.cal_run.specs.Holding.{AreHeld, HoldsPaths}
use Rattle.cal_run.specs.Lawful.{process_lines}
use Rattle.cal_run.specs.Numbers.{AreNumbered}
use Rattle.cal_run.specs.Paths.{held_by_thread, held_from, own_operation}
use Rattle.cal_run.specs.Plain.{notes_from}
use Rattle.cal_run.specs.Steps.{ThreadState}
use Rattle.cal_run.specs.Walking.{every, has_trace, held_to, noted_by, takers}
use Rattle.cal_value.specs.declared.attribute.Entry.{Entry}
use Rattle.cal_run.proofs.walking.walk_thread.Given as goal

-- The thread's board is as the lines so far leave it, and the process has taken in what they placed;
-- what was held and counted, with what is left, is what the thread holds and what is taken of it,
-- and at most sixteen snapshots were counted a line.
abbrev pub invariant-loop-place : goal.invariant-loop-place
invariant-loop-place l = record {
  numbered : AreNumbered l.context l.script l.numbers;
  grows : Grows l.fn.context l.context;
  process : IsProcess l.context l.script l.history l.walk.process;
  held : AreHeld l.context l.walk.placed.nodes
      (held_to l.script l.history l.walk.process.count);
  count : l.walk.process.count + length (process_lines l.script (drop l.place l.lines))
      ≡ l.fn.walk.process.count + length (process_lines l.script l.lines);
  few : l.walk.in_all ≤ l.fn.walk.in_all + 16 * l.place;
  few_traced : l.walk.traced ≤ l.fn.walk.traced + 16 * l.place;
  so_far : (state : ThreadState) × (seen : ℕ) × (some : List (List Entry))
      × Holds l.context l.script l.board state.board
      × HoldsPaths l.fn.context l.context l.fn.walk.own.nodes l.walk.own.nodes some
      × (some ++ held_from l.script state.board (map (own_operation l.script) (drop l.place l.lines))
      ≡ held_by_thread l.script l.lines)
      × (l.walk.in_all + sum_by (takers l.script every) (zip (drop l.place l.lines)
      (notes_from l.script l.walk.process.count seen state (drop l.place l.lines)))
      ≡ l.fn.walk.in_all + noted_by l.script every l.lines l.fn.walk.process.count)
      × (l.walk.traced + sum_by (takers l.script has_trace) (zip (drop l.place l.lines)
      (notes_from l.script l.walk.process.count seen state (drop l.place l.lines)))
      ≡ l.fn.walk.traced + noted_by l.script has_trace l.lines l.fn.walk.process.count);
}
