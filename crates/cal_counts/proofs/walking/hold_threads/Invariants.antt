use Rattle.std.proofs.Common.{take}
use Rattle.std.specs.Prelude.{flat_map}
use Rattle.cal_context.specs.Tree.{Grows}
use Rattle.cal_run.specs.Holding.{HoldsPaths}
use Rattle.cal_run.specs.Numbers.{AreNumbered}
use Rattle.cal_run.specs.Paths.{held_by_thread}
use Rattle.cal_counts.proofs.walking.hold_threads.Given as goal

-- what the boards of the threads so far held is held
abbrev pub invariant-loop-thread : goal.invariant-loop-thread
invariant-loop-thread l = record {
  numbered : AreNumbered l.context l.script l.numbers;
  grows : Grows l.fn.context l.context;
  held : HoldsPaths l.fn.context l.context l.fn.held.nodes l.held.nodes
      (flat_map (held_by_thread l.script) (take l.thread-index l.script.threads));
}
