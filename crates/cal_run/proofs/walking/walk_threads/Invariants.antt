use Rattle.std.proofs.Common.{◌≡◌, ◌+◌, drop, length, take}
use Rattle.std.specs.Prelude.{flat_map, zip}
use Rattle.cal_context.specs.Tree.{Grows}
use Rattle.cal_run.proofs.PlainLemmas.{total}
use Rattle.cal_run.specs.Held.{IsProcess}
use Rattle.cal_run.specs.Holding.{AreHeld, HoldsPaths}
use Rattle.cal_run.specs.Numbers.{AreNumbered}
use Rattle.cal_run.specs.Paths.{held_by_thread}
use Rattle.cal_run.specs.Plain.{plain_history, threads_from}
use Rattle.cal_run.specs.Walking.{every, has_trace, held_to, taken_by}
use Rattle.cal_run.proofs.walking.walk_threads.Given as goal

-- What the threads so far hold is held; what was counted, with what is left, is what is taken in all.
abbrev pub invariant-loop-number : goal.invariant-loop-number
invariant-loop-number l = record {
  numbered : AreNumbered l.context l.script l.numbers;
  grows : Grows l.fn.context l.context;
  process : IsProcess l.context l.script l.history l.walk.process;
  held : AreHeld l.context l.walk.placed.nodes
      (held_to l.script l.history l.walk.process.count);
  count : l.walk.process.count + total l.script (drop l.number l.script.threads)
      ≡ length (plain_history l.script);
  own : HoldsPaths l.fn.context l.context l.fn.walk.own.nodes l.walk.own.nodes
      (flat_map (held_by_thread l.script) (take l.number l.script.threads));
  in_all : l.walk.in_all + taken_by l.script every (zip (drop l.number l.script.threads)
      (threads_from l.script l.walk.process.count (drop l.number l.script.threads)))
      ≡ l.fn.walk.in_all + taken_by l.script every
      (zip l.script.threads (threads_from l.script 0 l.script.threads));
  traced : l.walk.traced + taken_by l.script has_trace (zip (drop l.number l.script.threads)
      (threads_from l.script l.walk.process.count (drop l.number l.script.threads)))
      ≡ l.fn.walk.traced + taken_by l.script has_trace
      (zip l.script.threads (threads_from l.script 0 l.script.threads));
}
