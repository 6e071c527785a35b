use Rattle.std.proofs.Common.{◌≡◌, ◌<◌, ◌++◌, length}
use Rattle.cal_context.specs.Tree.{path_at}
use Rattle.cal_treefmt.specs.Lines.{indent}
use Rattle.cal_treefmt.proofs.label.indent.Given as goal

-- the spaces so far, and those of the path that is left
abbrev pub invariant-loop-link : goal.invariant-loop-link
invariant-loop-link l = record {
  within : l.node.0 < length l.context.paths;
  rest : l.label ++ indent (path_at l.context l.node) ≡ l.initial.label ++ indent (path_at l.context l.fn.node);
}

abbrev pub decreases-loop-link : goal.decreases-loop-link
decreases-loop-link l = l.node.0
