use Rattle.std.proofs.Common.{◌≡◌, ◌+◌, List, ◌++◌, drop, length}
use Rattle.cal_context.specs.Taking.{TakesMore}
use Rattle.cal_context.specs.Tree.{Grows}
use Rattle.cal_run.proofs.BehindLemmas.{threads_behind}
use Rattle.cal_run.proofs.PlainLemmas.{total}
use Rattle.cal_run.specs.Numbers.{AreNumbered}
use Rattle.cal_run.specs.Plain.{plain, plain_history, threads_from}
use Rattle.cal_run.specs.Refused.{refused_in}
use Rattle.cal_run.specs.Runs.{snapshots}
use Rattle.cal_value.specs.declared.record.Rec.{Rec}
use Rattle.cal_run.proofs.plain_run.take_plain_channel.Given as goal

-- What the threads so far took and how many of their lines were refused, with those that are left,
-- is what the channel takes and how many are refused in all.
abbrev pub invariant-loop-number : goal.invariant-loop-number
invariant-loop-number g l = record {
  numbered : AreNumbered l.context l.script l.numbers;
  grows : Grows l.fn.context l.context;
  count : l.before + total l.script (drop l.number l.script.threads)
      ≡ length (plain_history l.script);
  so_far : (taken : List Rec)
      × TakesMore (g.T.Taker.has_taken l.fn.taker l.fn.context)
      (g.T.Taker.has_taken l.taker l.context) taken
      × (taken ++ threads_behind l.script l.channel l.before (drop l.number l.script.threads)
      ≡ snapshots l.script (plain l.script) l.channel);
  refused : l.refused + refused_in (threads_from l.script l.before
      (drop l.number l.script.threads)) ≡ refused_in (plain l.script).threads;
  about : g.T.Taker.about l.taker ≡ g.T.Taker.about l.fn.taker;
}
