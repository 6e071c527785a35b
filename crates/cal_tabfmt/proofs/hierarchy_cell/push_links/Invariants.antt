use Rattle.std.proofs.Common.{List, ◌++◌, map, filter, take}
use Rattle.cal_value.specs.declared.attribute.Entry.{Entry}
use Rattle.cal_value.specs.declared.variant.Variant.{Variant}
use Rattle.cal_rowset.specs.Cells.{values}
use Rattle.cal_rowset.specs.Filling.{Shows}
use Rattle.cal_rowset.specs.Hierarchy.{is_of_hierarchy}
use Rattle.cal_rowset.specs.Links.{link_entry}
use Rattle.cal_tabfmt.proofs.hierarchy_cell.push_links.Given as goal

abbrev pub invariant-loop-link : goal.invariant-loop-link
invariant-loop-link l = (vs : List Variant) → Shows l.fn.cell vs
    → Shows l.cell (vs ++ values (filter (λ (e : Entry). is_of_hierarchy e.attr) (map (link_entry l.context) (take l.link-index l.links))))
