use Rattle.std.proofs.Common.{◌≡◌, ◌≤◌, take}
use Rattle.std.specs.Prelude.{count_by, zip}
use Rattle.cal_run.specs.Counting.{is_noted_taken}
use Rattle.cal_counts.proofs.snapshots.count_lines.Given as goal

-- the lines so far are counted
abbrev pub invariant-loop-place : goal.invariant-loop-place
invariant-loop-place l = record {
  counted : l.count
      ≡ count_by (is_noted_taken l.script l.channel) (take l.place (zip l.lines l.notes));
  few : l.count ≤ l.place;
}
