use Rattle.std.proofs.Common.{◌≡◌, ◌++◌, take}
use Rattle.cal_engine.specs.Finishing.{AreKept, Lists, entries_of_results}
use Rattle.cal_engine.proofs.finishing.add_results.Given as goal

abbrev pub invariant-loop-place : goal.invariant-loop-place
invariant-loop-place l = (lists : Lists) → AreKept l.aggs lists l.own l.all l.below
    → l.entries.items ≡ l.initial.entries.items ++ entries_of_results (take l.place l.aggs) lists
