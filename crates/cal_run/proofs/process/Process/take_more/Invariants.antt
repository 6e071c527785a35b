use Rattle.cal_context.specs.Tree.{Grows}
use Rattle.cal_run.specs.Held.{Holds}
use Rattle.cal_run.specs.History.{process_board}
use Rattle.cal_run.specs.Numbers.{AreNumbered}
use Rattle.cal_run.proofs.process.Process.take_more.Given as goal

-- the operations so far are taken in
abbrev pub invariant-loop-place : goal.invariant-loop-place
invariant-loop-place l = record {
  holds : Holds l.context l.script l.self.board (process_board l.script l.history l.place);
  numbered : AreNumbered l.context l.script l.numbers;
  grows : Grows l.fn.context l.context;
}
