use Rattle.std.proofs.Common.{◌<◌, length}
use Rattle.tests_read.proofs.context.node.Given as goal

abbrev pub invariant-loop-name : goal.invariant-loop-name
invariant-loop-name l = record {
  parent : l.node.0 < length l.context.paths;
  attribute : l.function.0 < length l.context.attributes;
}
