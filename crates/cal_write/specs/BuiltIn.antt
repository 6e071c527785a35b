use Rattle.std.specs.Prelude.{ℕ, List, [], ◌∷◌, ◌++◌, Some, None, map}
use Rattle.cal_value.specs.Kinds.{kind_node}
use Rattle.cal_value.specs.declared.attribute.Attribute.{Attribute}
use Rattle.cal_value.specs.declared.kind.Kind as kinds
use Rattle.cal_value.specs.declared.kind.Kind.TheVariants as kind
use Rattle.cal_value.specs.declared.variant.Variant.TheVariants as value
use Rattle.cal_write.specs.Nodes.{name_attribute, type_attribute, prop_attribute, first_kinds}
use Rattle.cal_write.specs.declared.built_in.BuiltIn.{BuiltIn}
use Rattle.cal_write.specs.declared.built_in.BuiltIn.TheVariants.{OfNames, OfKinds, OfProps}
use Rattle.cal_write.specs.declared.described.DescribedNode.{DescribedNode}

abbrev pub built_in_attribute : BuiltIn → Attribute
built_in_attribute OfNames = name_attribute
built_in_attribute OfKinds = type_attribute
built_in_attribute OfProps = prop_attribute

-- the ids of the built-in attributes' nodes: no other attribute's node has one up to 10
abbrev pub built_in_id : BuiltIn → ℕ
built_in_id OfNames = 8
built_in_id OfKinds = 9
built_in_id OfProps = 10

-- the nodes that every stream has, by the ids of their parents
abbrev pub key_of_kind : kinds.Kind → DescribedNode
key_of_kind k =
    record { parent = None; entry = record { attr = type_attribute; value = value.Kind k } }

abbrev pub key_of_built_in : BuiltIn → DescribedNode
key_of_built_in b =
    let a = built_in_attribute b in
    record {
      parent = Some (kind_node a.kind);
      entry = record { attr = name_attribute; value = value.Text a.name };
    }

abbrev pub built_in_keys : List DescribedNode
built_in_keys =
    map key_of_kind first_kinds ++ map key_of_built_in (OfNames ∷ OfKinds ∷ OfProps ∷ [])
    ++ map key_of_kind (kind.Ptr ∷ [])
