use Rattle.std.proofs.Common.{List, ◌++◌, filter, take}
use Rattle.cal_value.specs.declared.attribute.Entry.{Entry}
use Rattle.cal_value.specs.declared.variant.Variant.{Variant}
use Rattle.cal_rowset.specs.Cells.{values}
use Rattle.cal_rowset.specs.Filling.{Shows}
use Rattle.cal_rowset.specs.Hierarchy.{is_of_hierarchy}
use Rattle.cal_rowset.proofs.cell.Cell.push_path.Given as goal

abbrev pub invariant-loop-entry : goal.invariant-loop-entry
invariant-loop-entry l = (vs : List Variant) → Shows l.fn.self vs
    → Shows l.self (vs ++ values (filter (λ (e : Entry). is_of_hierarchy e.attr) (take l.entry-index l.path)))
