use Rattle.std.specs.Prelude.{◌≡◌, ◌<◌, [], ◌∷◌, ◌++◌, length}
use Rattle.cal_value.specs.declared.attribute.Attribute.{Attribute}
use Rattle.cal_value.specs.declared.variant.Variant.{Variant}
use Rattle.cal_context.specs.Lists.{Adds, Interns}
use Rattle.cal_context.specs.Tree.{Tree, attribute_at, value_at, path_at}
use Rattle.cal_context.specs.declared.numbers.AttributeNumber.{AttributeNumber}
use Rattle.cal_context.specs.declared.numbers.Link.{Link}
use Rattle.cal_context.specs.declared.numbers.NodeNumber.{NodeNumber}
use Rattle.cal_context.specs.declared.numbers.ValueNumber.{ValueNumber}

-- A node is the child of this parent by this attribute and value: it comes later, and its path is
-- the parent's with the entry at the end (Caliper's context tree).
pub record IsChild (t : Tree) (parent : NodeNumber) (attribute : AttributeNumber) (value : Variant)
    (node : NodeNumber) : Type 0 where
  pub later : parent.0 < node.0
  pub within : node.0 < length t.paths
  pub known : attribute.0 < length t.attributes
  pub path : path_at t node
      ≡ path_at t parent ++ record { attr = attribute_at t attribute; value = value } ∷ []

-- each number of a link is one of the context's
pub record CanLink (t : Tree) (l : Link) : Type 0 where
  pub parent : l.parent.0 < length t.paths
  pub attribute : l.attribute.0 < length t.attributes
  pub value : l.value.0 < length t.values

-- a node hangs in the tree by this link
pub record IsLinked (t : Tree) (l : Link) (node : NodeNumber) : Type 0 where
  pub child : IsChild t l.parent l.attribute (value_at t l.value) node
  pub value : l.value.0 < length t.values

-- An attribute has this number. It is added where it is new, and nothing else changes.
pub record AddsAttribute (old : Tree) (a : Attribute) (new : Tree) (n : AttributeNumber)
    : Type 0 where
  pub attributes : Interns old.attributes a new.attributes n.0
  pub values : new.values ≡ old.values
  pub paths : new.paths ≡ old.paths

-- A value has this number. It is added where it is new, and nothing else changes.
pub record AddsValue (old : Tree) (v : Variant) (new : Tree) (n : ValueNumber) : Type 0 where
  pub values : Interns old.values v new.values n.0
  pub attributes : new.attributes ≡ old.attributes
  pub paths : new.paths ≡ old.paths

-- A node is the child that was asked for. Its path is added where it is new, and so is its value;
-- where the child was there, nothing changes.
pub record AddsChild (old : Tree) (parent : NodeNumber) (attribute : AttributeNumber)
    (value : Variant) (new : Tree) (node : NodeNumber) : Type 0 where
  pub child : IsChild new parent attribute value node
  pub paths : Adds old.paths (path_at new node) new.paths
  pub values : Adds old.values value new.values
  pub attributes : new.attributes ≡ old.attributes
  pub again : IsChild old parent attribute value node → new ≡ old

-- the same by a link, whose value is there
abbrev pub AddsLinked : Tree → Link → Tree → NodeNumber → Type 0
AddsLinked old l new node = AddsChild old l.parent l.attribute (value_at old l.value) new node
