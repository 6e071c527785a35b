use Rattle.std.proofs.Common.{◌≡◌, ℕ, ◌≤◌, List, ◌++◌, drop}
use Rattle.std.specs.Prelude.{unwrap_or, zip}
use Rattle.cal_context.specs.Taking.{TakesMore}
use Rattle.cal_context.specs.Tree.{Grows}
use Rattle.cal_run.specs.Numbers.{AreNumbered}
use Rattle.cal_run.specs.Runs.{taken_from}
use Rattle.cal_run.specs.Seeing.{SeesInOrder}
use Rattle.cal_run.specs.Steps.{ThreadState, at_start}
use Rattle.cal_run.specs.Threads.{IsThread}
use Rattle.cal_value.specs.declared.record.Rec.{Rec}
use Rattle.cal_run.proofs.run.take_thread.Given as goal

-- The thread is kept as the lines so far leave it; what they took, and what those that are left
-- take, is what the thread takes.
abbrev pub invariant-loop-place : goal.invariant-loop-place
invariant-loop-place g l = record {
  numbered : AreNumbered l.context l.script l.numbers;
  grows : Grows l.fn.context l.context;
  timed : l.thread.timed ≡ l.channel.timer;
  so_far : (state : ThreadState) × (previous before : ℕ) × (taken : List Rec)
      × IsThread l.context l.script l.history l.thread state previous
      × (l.thread.process.count ≤ before)
      × SeesInOrder l.script l.history before (drop l.place (zip l.lines l.note.lines))
      × TakesMore (g.T.Taker.has_taken l.fn.taker l.fn.context)
      (g.T.Taker.has_taken l.taker l.context) taken
      × (taken ++ taken_from l.script l.history l.channel state previous
      (drop l.place (zip l.lines l.note.lines))
      ≡ taken_from l.script l.history l.channel at_start (unwrap_or l.note.start 0)
      (zip l.lines l.note.lines));
  about : g.T.Taker.about l.taker ≡ g.T.Taker.about l.fn.taker;
}
