-- Values of new nodes that came lately (private).
use Rattle.std.specs.Prelude.{◌≡◌, ◌<◌, ℕ, List, None, length}
use Rattle.cal_context.specs.Tree.{Tree, attribute_at, value_at}
use Rattle.cal_context.specs.declared.numbers.ValueNumber.{ValueNumber}
use Rattle.cal_value.specs.declared.kind.Kind.TheVariants as kind
use Rattle.cal_value.specs.declared.variant.Variant.TheVariants as value
use Rattle.cal_read.specs.Held.{held_at}
use Rattle.cal_read.specs.declared.node_line.Site.{Site}
use Rattle.cal_read.specs.declared.node_texts.NodeIds.{NodeIds}
use Rattle.cal_read.specs.declared.nodes.Nodes.{Nodes}

-- a text is the value of this number, and that of a node that fits at a site, is new, and is no
-- part of what an attribute is
pub record IsKnownValue (t : Tree) (nodes : Nodes) (ids : NodeIds) (site : Site) (text : List ℕ)
    (number : ValueNumber) : Type 0 where
  pub beyond : 10 < ids.attribute
  pub room : site.above.depth < 1024
  pub textual : (attribute_at t site.attribute).kind ≡ kind.Str
  pub new : held_at nodes ids.id ≡ None
  pub within : number.0 < length t.values
  pub value_is : value_at t number ≡ value.Text text
