use Rattle.std.proofs.Common.{◌≡◌, ◌≤◌, List, length, take}
use Rattle.std.specs.Prelude.{sum_by, zip}
use Rattle.cal_run.specs.Counting.{count_noted}
use Rattle.cal_script.specs.declared.script.Line.{Line}
use Rattle.cal_counts.proofs.snapshots.count_taken.Given as goal

-- the threads so far are counted, each with its lines at most
abbrev pub invariant-loop-number : goal.invariant-loop-number
invariant-loop-number l = record {
  counted : l.count ≡ sum_by (count_noted l.script l.channel)
      (take l.number (zip l.script.threads l.journal.threads));
  few : l.count ≤ sum_by {X = List Line} length (take l.number l.script.threads);
}
