use Rattle.std.proofs.Common.{map, take}
use Rattle.cal_rowset.specs.Hierarchy.{hierarchy}
use Rattle.cal_treefmt.specs.Walks.{AreAt, HasNodes}
use Rattle.cal_treefmt.proofs.nodes.add_rows.Given as goal

-- the nodes of the rows so far
abbrev pub invariant-loop-row : goal.invariant-loop-row
invariant-loop-row l = record {
  has : HasNodes l.context (take l.row-index l.rows);
  at : AreAt l.context l.of_rows.items (map hierarchy (take l.row-index l.rows));
}
