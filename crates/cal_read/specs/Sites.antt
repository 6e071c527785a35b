-- A node that a line is about to add (private).
use Rattle.std.specs.Prelude.{◌≡◌, ◌<◌, length}
use Rattle.cal_context.specs.Tree.{Tree, attribute_at}
use Rattle.cal_value.specs.declared.variant.Variant.{Variant}
use Rattle.cal_read.specs.Held.{IsAt}
use Rattle.cal_read.specs.NodeLines as lines
use Rattle.cal_read.specs.Nodes.{Node}
use Rattle.cal_read.specs.declared.node_line.Site as sites
use Rattle.cal_read.specs.declared.node_texts.NodeIds.{NodeIds}

-- a site over a context is that of a stream
pub record IsSite (t : Tree) (site : sites.Site) (s : lines.Site) : Type 0 where
  pub known : site.attribute.0 < length t.attributes
  pub attribute : attribute_at t site.attribute ≡ s.attribute
  pub above : IsAt t site.above s.above

-- a node with these ids, at a site, with a value
pub record IsToBe (t : Tree) (ids : NodeIds) (site : sites.Site) (v : Variant) (n : Node) : Type 0
  where
    pub above : IsAt t site.above n.above
    pub attribute : n.own.entry.attr ≡ attribute_at t site.attribute
    pub id : n.own.attribute ≡ ids.attribute
    pub value : n.own.entry.value ≡ v
    pub parent : n.parent ≡ ids.parent
