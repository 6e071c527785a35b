use Rattle.std.proofs.Common.{map, reverse, take}
use Rattle.cal_context.specs.Tree.{Grows}
use Rattle.cal_value.specs.Kinds.{every_kind}
use Rattle.cal_read.specs.BuiltIn.{named_kind}
use Rattle.cal_read.specs.Held.{AreHeld}
use Rattle.cal_read.proofs.built_in.put_kinds.Given as goal

abbrev pub invariant-loop-kind : goal.invariant-loop-kind
invariant-loop-kind l = record {
  grows : Grows l.fn.context l.context;
  held : AreHeld l.context l.nodes (reverse (map named_kind (take l.kind-index every_kind)));
}
