use Rattle.std.proofs.Common.{◌≡◌, ◌<◌, [], length}
use Rattle.std.specs.List.{All}
use Rattle.cal_context.specs.Snapshots.{IsBelowRoot}
use Rattle.tests_read.proofs.context.fill.Given as goal

abbrev pub invariant-loop-node : goal.invariant-loop-node
invariant-loop-node l = record {
  nodes : All (IsBelowRoot l.context) l.snapshot.nodes.items;
  imms : l.snapshot.imms.items ≡ [];
  attribute : l.attribute.0 < length l.context.attributes;
}
