use Rattle.std.proofs.Common.{◌≡◌, ◌≤◌, ◌-◌, length}
use Rattle.std.specs.List.{between}
use Rattle.cal_line.specs.Escapes.{escaped}
use Rattle.cal_read.proofs.usual.plain_end.Given as goal

abbrev pub invariant-loop-place : goal.invariant-loop-place
invariant-loop-place l = record {
  order : l.start ≤ l.place;
  within : l.place ≤ length l.line;
  written : escaped (between l.start l.place l.line) ≡ between l.start l.place l.line;
}

abbrev pub decreases-loop-place : goal.decreases-loop-place
decreases-loop-place l = length l.bytes - l.place
