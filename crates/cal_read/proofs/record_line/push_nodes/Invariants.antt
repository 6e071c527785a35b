use Rattle.std.proofs.Common.{◌≡◌, List, Ok, take}
use Rattle.cal_context.specs.Tree.{Tree}
use Rattle.cal_read.specs.Columns.{AreEnds}
use Rattle.cal_read.specs.Fields.{each}
use Rattle.cal_read.specs.Held.{AreHeld}
use Rattle.cal_read.specs.NodeLines.{known}
use Rattle.cal_read.specs.Nodes.{Node, Named}
use Rattle.cal_read.proofs.record_line.push_nodes.Given as goal

abbrev pub invariant-loop-id : goal.invariant-loop-id
invariant-loop-id l = (t : Tree) (named : List Named) → AreHeld t l.nodes named
    → (found : List Node) × (each (known named) (take l.id-index l.ids) ≡ Ok found) × AreEnds t l.ends.items found
