use Rattle.std.proofs.Common.{filter, map, take}
use Rattle.cal_value.specs.Flat.{joined}
use Rattle.cal_context.specs.Tree.{path_at}
use Rattle.cal_rowset.specs.Hierarchy.{is_of_hierarchy}
use Rattle.cal_treefmt.specs.Walks.{Walks}
use Rattle.cal_treefmt.specs.Ways.{AreWays}
use Rattle.cal_treefmt.proofs.ways.Ways.add_row.Given as goal

-- the way so far
abbrev pub invariant-loop-place : goal.invariant-loop-place
invariant-loop-place l = record {
  ways : AreWays l.context l.nodes l.self;
  walks : Walks l.fn.nodes l.nodes (record { 0 = 0 })
      (filter (λ e. is_of_hierarchy e.attr) (joined (take l.place (map (path_at l.context) l.row)))) l.at;
}
