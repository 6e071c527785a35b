use Rattle.std.proofs.Common.{◌≡◌, ℕ, ◌+◌, ◌≤◌, List, ◌++◌, drop, length}
use Rattle.cal_context.specs.Taking.{TakesMore}
use Rattle.cal_context.specs.Tree.{Grows}
use Rattle.cal_run.specs.Behind.{IsBehind, taken_behind}
use Rattle.cal_run.specs.Lawful.{process_lines}
use Rattle.cal_run.specs.Numbers.{AreNumbered}
use Rattle.cal_run.specs.Plain.{notes_from}
use Rattle.cal_run.specs.Refused.{refused_of}
use Rattle.cal_run.specs.Steps.{ThreadState, at_start}
use Rattle.cal_value.specs.declared.record.Rec.{Rec}
use Rattle.cal_run.proofs.plain_run.run_behind.Given as goal

-- The thread is kept as the lines so far leave it; what they took and how many were refused, with
-- those that are left, is what the thread takes and how many are refused in all.
abbrev pub invariant-loop-place : goal.invariant-loop-place
invariant-loop-place g l = record {
  numbered : AreNumbered l.context l.script l.numbers;
  grows : Grows l.fn.context l.context;
  timed : l.behind.thread.timed ≡ l.channel.timer;
  count : l.behind.before + length (process_lines l.script (drop l.place l.lines))
      ≡ l.fn.before + length (process_lines l.script l.lines);
  so_far : (state : ThreadState) × (previous : ℕ) × (taken : List Rec)
      × IsBehind l.context l.script l.behind state previous
      × TakesMore (g.T.Taker.has_taken l.fn.taker l.fn.context)
      (g.T.Taker.has_taken l.taker l.context) taken
      × (taken ++ taken_behind l.script l.channel l.behind.before l.behind.seen state previous
      (drop l.place l.lines)
      ≡ taken_behind l.script l.channel l.fn.before 0 at_start 0 l.lines)
      × (l.refused + refused_of (notes_from l.script l.behind.before l.behind.seen state
      (drop l.place l.lines))
      ≡ refused_of (notes_from l.script l.fn.before 0 at_start l.lines));
  about : g.T.Taker.about l.taker ≡ g.T.Taker.about l.fn.taker;
}
