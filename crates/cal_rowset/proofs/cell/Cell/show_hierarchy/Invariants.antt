use Rattle.std.proofs.Common.{filter, take}
use Rattle.cal_value.specs.Flat.{joined}
use Rattle.cal_value.specs.declared.attribute.Entry.{Entry}
use Rattle.cal_rowset.specs.Cells.{values}
use Rattle.cal_rowset.specs.Filling.{Shows}
use Rattle.cal_rowset.specs.Hierarchy.{is_of_hierarchy}
use Rattle.cal_rowset.proofs.cell.Cell.show_hierarchy.Given as goal

abbrev pub invariant-loop-path : goal.invariant-loop-path
invariant-loop-path l = Shows l.self (values (filter (λ (e : Entry). is_of_hierarchy e.attr) (joined (take l.path-index l.row.paths))))
