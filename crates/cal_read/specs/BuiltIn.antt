-- The nodes that every stream has (the `.cali` format, with Giltmoth's numbers).
use Rattle.std.specs.Prelude.{ℕ, List, [], ◌∷◌, ◌++◌, Some, None, codes, map, reverse}
use Rattle.cal_value.specs.Kinds.{kind_node, every_kind}
use Rattle.cal_value.specs.declared.attribute.Attribute.{Attribute}
use Rattle.cal_value.specs.declared.kind.Kind as kinds
use Rattle.cal_value.specs.declared.kind.Kind.TheVariants as kind
use Rattle.cal_value.specs.declared.variant.Variant.TheVariants as value
use Rattle.cal_read.specs.Nodes.{Node, Named, steps_to}
use Rattle.cal_read.specs.declared.built_in.BuiltIn.{BuiltIn}
use Rattle.cal_read.specs.declared.built_in.BuiltIn.TheVariants.{OfNames, OfKinds, OfProps}

-- the attributes that say what an attribute is, and the ids of their nodes
abbrev pub built_in_attribute : BuiltIn → Attribute
built_in_attribute OfNames =
    record { name = codes "cali.attribute.name"; kind = kind.Str; props = record { 0 = 0 } }
built_in_attribute OfKinds =
    record { name = codes "cali.attribute.type"; kind = kind.TypeName; props = record { 0 = 0 } }
built_in_attribute OfProps =
    record { name = codes "cali.attribute.prop"; kind = kind.Int; props = record { 0 = 0 } }

abbrev pub built_in_id : BuiltIn → ℕ
built_in_id OfNames = 8
built_in_id OfKinds = 9
built_in_id OfProps = 10

-- the node of a kind, without a parent
abbrev pub node_of_kind : kinds.Kind → Node
node_of_kind k = record {
  own = record {
    attribute = built_in_id OfKinds;
    entry = record { attr = built_in_attribute OfKinds; value = value.Kind k };
  };
  parent = None;
  above = [];
}

-- the node of a built-in attribute has its name, and stands below its kind
abbrev pub node_of_built_in : BuiltIn → Node
node_of_built_in b = let a = built_in_attribute b in record {
  own = record {
    attribute = built_in_id OfNames;
    entry = record { attr = built_in_attribute OfNames; value = value.Text a.name };
  };
  parent = Some (kind_node a.kind);
  above = steps_to (node_of_kind a.kind);
}

abbrev pub named_kind : kinds.Kind → Named
named_kind k = record { id = kind_node k; node = node_of_kind k }

abbrev pub named_built_in : BuiltIn → Named
named_built_in b = record { id = built_in_id b; node = node_of_built_in b }

abbrev pub every_built_in : List BuiltIn
every_built_in = OfNames ∷ OfKinds ∷ OfProps ∷ []

-- the nodes of every stream, with their ids, those of kinds the last
abbrev pub built_in : List Named
built_in = reverse (map named_built_in every_built_in) ++ reverse (map named_kind every_kind)
