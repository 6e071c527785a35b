use Rattle.std.proofs.Common.{map, take}
use Rattle.cal_rowset.specs.Hierarchy.{hierarchy}
use Rattle.cal_rowset.specs.NumberedRows.{in_order, meant}
use Rattle.cal_treefmt.specs.Walks.{AreAt, HasNodes}
use Rattle.cal_treefmt.specs.Ways.{AreWays}
use Rattle.cal_treefmt.proofs.nodes.add_numbered.Given as goal

-- the nodes of the rows so far
abbrev pub invariant-loop-place : goal.invariant-loop-place
invariant-loop-place l = record {
  ways : AreWays l.numbers l.context l.ways;
  has : HasNodes l.context (take l.place-index (map (meant l.numbers) (in_order l.rows l.order)));
  at : AreAt l.context l.of_rows.items (map hierarchy (take l.place-index (map (meant l.numbers) (in_order l.rows l.order))));
}
