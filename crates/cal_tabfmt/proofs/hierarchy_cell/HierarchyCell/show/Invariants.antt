use Rattle.std.proofs.Common.{map, filter, take}
use Rattle.cal_value.specs.Flat.{joined}
use Rattle.cal_value.specs.declared.attribute.Entry.{Entry}
use Rattle.cal_context.specs.Tree.{path_at}
use Rattle.cal_rowset.specs.Cells.{values}
use Rattle.cal_rowset.specs.Filling.{Shows}
use Rattle.cal_rowset.specs.Hierarchy.{is_of_hierarchy}
use Rattle.cal_tabfmt.proofs.hierarchy_cell.HierarchyCell.show.Given as goal

abbrev pub invariant-loop-node : goal.invariant-loop-node
invariant-loop-node l = Shows l.self.cell (values (filter (λ (e : Entry). is_of_hierarchy e.attr) (joined (map (path_at l.context) (take l.node-index l.snapshot.nodes.items)))))
