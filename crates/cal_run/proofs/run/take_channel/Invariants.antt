use Rattle.std.proofs.Common.{take, ◌≡◌}
use Rattle.std.specs.Prelude.{flat_map, zip}
use Rattle.cal_context.specs.Taking.{TakesMore}
use Rattle.cal_context.specs.Tree.{Grows}
use Rattle.cal_run.specs.Numbers.{AreNumbered}
use Rattle.cal_run.specs.Runs.{taken_by_thread}
use Rattle.cal_run.proofs.run.take_channel.Given as goal

-- what the threads so far take was taken
abbrev pub invariant-loop-number : goal.invariant-loop-number
invariant-loop-number g l = record {
  numbered : AreNumbered l.context l.script l.numbers;
  grows : Grows l.fn.context l.context;
  taken : TakesMore (g.T.Taker.has_taken l.fn.taker l.fn.context)
      (g.T.Taker.has_taken l.taker l.context)
      (flat_map (taken_by_thread l.script l.journal.ops l.channel)
      (take l.number (zip l.script.threads l.journal.threads)));
  about : g.T.Taker.about l.taker ≡ g.T.Taker.about l.fn.taker;
}
