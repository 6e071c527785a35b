use Rattle.std.proofs.Common.{◌≡◌, None, take}
use Rattle.cal_rowset.specs.Filling.{HoldsSome}
use Rattle.cal_tabfmt.specs.Expand.{expand_lines}
use Rattle.cal_tabfmt.proofs.lines.own_lines.Given as goal

abbrev pub invariant-loop-row : goal.invariant-loop-row
invariant-loop-row l = record {
  text : l.out ≡ expand_lines None (take l.row-index l.rows);
  holds : HoldsSome l.cells;
}
