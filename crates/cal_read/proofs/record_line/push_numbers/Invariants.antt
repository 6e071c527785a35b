use Rattle.std.proofs.Common.{◌≡◌, List, Ok, take}
use Rattle.cal_context.specs.Tree.{Tree}
use Rattle.cal_value.specs.declared.attribute.Attribute.{Attribute}
use Rattle.cal_read.specs.Columns.{AreFound, AreNumbers}
use Rattle.cal_read.specs.Fields.{each}
use Rattle.cal_read.specs.NodeLines.{as_attribute}
use Rattle.cal_read.specs.Nodes.{Node}
use Rattle.cal_read.proofs.record_line.push_numbers.Given as goal

abbrev pub invariant-loop-number : goal.invariant-loop-number
invariant-loop-number l = (t : Tree) (nodes : List Node) → AreFound t l.found nodes
    → (attributes : List Attribute) × (each as_attribute (take l.number-index nodes) ≡ Ok attributes) × AreNumbers t l.numbers.items attributes
