-- The links of a path in a context, and their entries.
use Rattle.std.specs.Prelude.{◌≡◌, ◌<◌, List, length, map}
use Rattle.std.specs.List.{All}
use Rattle.cal_value.specs.declared.attribute.Entry.{Entry}
use Rattle.cal_context.specs.Tree.{Tree, attribute_at, path_at, value_at}
use Rattle.cal_context.specs.declared.numbers.Link.{Link}
use Rattle.cal_context.specs.declared.numbers.NodeNumber.{NodeNumber}

-- the attribute and the value of a link are the context's
pub record IsEntryOf (t : Tree) (link : Link) : Type 0 where
  pub attribute : link.attribute.0 < length t.attributes
  pub value : link.value.0 < length t.values

-- the entry of a link
abbrev pub link_entry : Tree → Link → Entry
link_entry t link = record {
  attr = attribute_at t link.attribute;
  value = value_at t link.value;
}

-- links from the root down make the path of a node
pub record AreLinksOf (t : Tree) (node : NodeNumber) (links : List Link) : Type 0 where
  pub path : path_at t node ≡ map (link_entry t) links
  pub entries : All (IsEntryOf t) links
