use Rattle.std.proofs.Common.{filter, take}
use Rattle.cal_rowset.specs.Hierarchy.{is_of_hierarchy}
use Rattle.cal_treefmt.specs.Walks.{Walks}
use Rattle.cal_treefmt.proofs.nodes.add_path.Given as goal

abbrev pub invariant-loop-entry : goal.invariant-loop-entry
invariant-loop-entry l =
    Walks l.fn.context l.context l.fn.from (filter (λ e. is_of_hierarchy e.attr) (take l.entry-index l.path)) l.node
