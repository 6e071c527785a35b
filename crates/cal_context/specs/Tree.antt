use Rattle.std.specs.Prelude.{◌≡◌, List, [], false, slice_get, slice_index_or, Some}
use Rattle.cal_value.specs.declared.attribute.Attribute.{Attribute}
use Rattle.cal_value.specs.declared.attribute.Entry.{Entry}
use Rattle.cal_value.specs.declared.kind.Kind.TheVariants as kind
use Rattle.cal_value.specs.declared.variant.Variant as variants
use Rattle.cal_value.specs.declared.variant.Variant.TheVariants as value
use Rattle.cal_context.specs.Lists.{AreApart, IsFront}
use Rattle.cal_context.specs.declared.numbers.AttributeNumber.{AttributeNumber}
use Rattle.cal_context.specs.declared.numbers.NodeNumber.{NodeNumber}
use Rattle.cal_context.specs.declared.numbers.ValueNumber.{ValueNumber}

-- What a context holds, by number: attributes, values, and of each node its path from the root
-- down (Caliper's context tree).
pub record Tree : Type 0 where
  pub attributes : List Attribute
  pub values : List variants.Variant
  pub paths : List (List Entry)

-- what is read past the end of a list
abbrev pub no_attribute : Attribute
no_attribute = record { name = []; kind = kind.Bool; props = record { 0 = 0 } }

abbrev pub no_value : variants.Variant
no_value = value.Bool false

-- the attribute, the value and the path of a number
abbrev pub attribute_at : Tree → AttributeNumber → Attribute
attribute_at t n = slice_index_or t.attributes n.0 no_attribute

abbrev pub value_at : Tree → ValueNumber → variants.Variant
value_at t n = slice_index_or t.values n.0 no_value

abbrev pub path_at : Tree → NodeNumber → List Entry
path_at t n = slice_index_or t.paths n.0 []

-- Every context has the root first, whose path is empty, and each attribute, value and path once.
pub record IsContext (t : Tree) : Type 0 where
  pub root : slice_get t.paths 0 ≡ Some []
  pub attributes : AreApart t.attributes
  pub values : AreApart t.values
  pub paths : AreApart t.paths

-- a context only grows: what a number means never changes
pub record Grows (old new : Tree) : Type 0 where
  pub attributes : IsFront old.attributes new.attributes
  pub values : IsFront old.values new.values
  pub paths : IsFront old.paths new.paths
