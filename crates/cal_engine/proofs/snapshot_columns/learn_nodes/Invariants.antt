use Rattle.std.proofs.Common.{◌≡◌, true, map, take}
use Rattle.cal_context.specs.Tree.{path_at}
use Rattle.cal_value.specs.Flat.{joined}
use Rattle.cal_engine.specs.Learning.{learned, names_beside}
use Rattle.cal_engine.specs.Visiting.{IsLearned, KnowsNames, MetWith}
use Rattle.cal_engine.proofs.snapshot_columns.learn_nodes.Given as goal

abbrev pub invariant-loop-node : goal.invariant-loop-node
invariant-loop-node l = record {
  knows : KnowsNames l.context l.shown;
  met : MetWith (IsLearned l.shown.names.keys) l.context l.visits;
  names : l.shown.names.keys ≡ learned l.initial.shown.names.keys
      (names_beside true (joined (map (path_at l.context) (take l.node-index l.nodes))));
}
