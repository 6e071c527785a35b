use Rattle.std.proofs.Common.{filter, take}
use Rattle.cal_value.specs.Flat.{joined}
use Rattle.cal_rowset.specs.Hierarchy.{is_of_hierarchy}
use Rattle.cal_treefmt.specs.Walks.{Walks}
use Rattle.cal_treefmt.proofs.nodes.add_row.Given as goal

abbrev pub invariant-loop-path : goal.invariant-loop-path
invariant-loop-path l =
    Walks l.fn.context l.context (record { 0 = 0 })
    (filter (λ e. is_of_hierarchy e.attr) (joined (take l.path-index l.row.paths))) l.node
