use Rattle.std.proofs.Common.{◌≡◌, false, map, take}
use Rattle.std.specs.List.{list_any}
use Rattle.cal_context.specs.Tree.{attribute_at}
use Rattle.cal_rowset.specs.Hierarchy.{is_of_hierarchy}
use Rattle.cal_engine.proofs.snapshot_columns.has_nested.Given as goal

abbrev pub invariant-loop-attribute : goal.invariant-loop-attribute
invariant-loop-attribute l =
    list_any is_of_hierarchy (map (attribute_at l.context) (take l.attribute-index l.trail)) ≡ false
