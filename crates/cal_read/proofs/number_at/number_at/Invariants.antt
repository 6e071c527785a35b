use Rattle.std.proofs.Common.{◌≡◌, ◌≤◌, ◌<◌, ◌-◌, length, true}
use Rattle.std.specs.Char.{is_digit}
use Rattle.std.specs.List.{between, list_all}
use Rattle.std.specs.Str.{IsCharBoundary}
use Rattle.std.specs.Str.Parse.{digits_value}
use Rattle.cal_line.specs.Escapes.{escaped}
use Rattle.cal_read.proofs.number_at.number_at.Given as goal

abbrev pub invariant-loop-place : goal.invariant-loop-place
invariant-loop-place l = record {
  order : l.start ≤ l.place;
  within : l.place ≤ length l.line;
  boundary : l.start < l.place → IsCharBoundary l.line l.place;
  written : escaped (between l.start l.place l.line) ≡ between l.start l.place l.line;
  value : l.number ≡ digits_value 10 (between l.start l.place l.line);
  digits : list_all (λ c. is_digit c 10) (between l.start l.place l.line) ≡ true;
  small : l.number ≤ 2000000000000000000;
}

abbrev pub decreases-loop-place : goal.decreases-loop-place
decreases-loop-place l = length l.bytes - l.place
