use Rattle.std.proofs.Common.{List, ◌++◌, map, reverse, take}
use Rattle.cal_context.specs.Tree.{Grows}
use Rattle.cal_read.specs.BuiltIn.{named_built_in, every_built_in}
use Rattle.cal_read.specs.Held.{AreHeld}
use Rattle.cal_read.specs.Nodes.{Named}
use Rattle.cal_read.proofs.built_in.put_built_in.Given as goal

abbrev pub invariant-loop-attribute : goal.invariant-loop-attribute
invariant-loop-attribute l = record {
  grows : Grows l.fn.context l.context;
  held : (named : List Named) → AreHeld l.fn.context l.fn.nodes named
      → AreHeld l.context l.nodes (reverse (map named_built_in (take l.attribute-index every_built_in)) ++ named);
}
