use Rattle.std.proofs.Common.{◌≡◌, ◌≤◌, take}
use Rattle.cal_script.specs.Shapes.{process_lines}
use Rattle.cal_script.proofs.shapes.all_process_lines.Given as goal

-- those of the lines so far
abbrev pub invariant-loop-line : goal.invariant-loop-line
invariant-loop-line l = record {
  counted : l.count ≡ process_lines l.script (take l.line-index l.lines);
  few : l.count ≤ l.line-index;
}
