use Rattle.std.proofs.Common.{◌≡◌, List, ◌++◌, map, take}
use Rattle.cal_value.specs.Flat.{joined}
use Rattle.cal_value.specs.declared.attribute.Entry.{Entry}
use Rattle.cal_context.specs.Tree.{path_at}
use Rattle.cal_rowset.specs.Filling.{names}
use Rattle.cal_tabfmt.specs.Snapshots.{KnowsAll}
use Rattle.cal_rowset.specs.Trails.{IsTrail}
use Rattle.cal_tabfmt.proofs.snapshot_cells.add_nodes.Given as goal

abbrev pub invariant-loop-node : goal.invariant-loop-node
invariant-loop-node l = record {
  same : names l.trail ≡ names l.fn.trail;
  added : (entries : List Entry) → KnowsAll l.context (names l.fn.trail) l.places → IsTrail l.fn.trail entries
      → IsTrail l.trail (entries ++ joined (map (path_at l.context) (take l.node-index l.nodes)));
}
