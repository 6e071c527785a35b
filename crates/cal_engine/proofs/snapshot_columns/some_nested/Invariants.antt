use Rattle.std.proofs.Common.{◌≡◌, false, map, take}
use Rattle.std.specs.List.{list_any}
use Rattle.cal_context.specs.Tree.{path_at}
use Rattle.cal_rowset.specs.Hierarchy.{is_of_hierarchy}
use Rattle.cal_engine.specs.Visiting.{IsPlain, MetWith}
use Rattle.cal_engine.proofs.snapshot_columns.some_nested.Given as goal

-- no path so far has entries of the hierarchy
abbrev pub invariant-loop-node : goal.invariant-loop-node
invariant-loop-node l = record {
  met : MetWith IsPlain l.context l.visits;
  none : list_any (λ path. list_any (λ e. is_of_hierarchy e.attr) path) (map (path_at l.context) (take l.node-index l.nodes)) ≡ false;
}
