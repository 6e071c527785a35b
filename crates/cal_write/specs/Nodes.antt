use Rattle.std.specs.Prelude.{Bool, ◌==◌, List, [], ◌∷◌, ◌++◌, pos, codes, map, fold, if◌then◌else◌}
use Rattle.std.specs.List.{flat_map, list_any}
use Rattle.std.specs.Ordering.{eq_by_cmp}
use Rattle.cal_value.specs.Order.{path_cmp}
use Rattle.cal_value.specs.declared.attribute.Attribute.{Attribute}
use Rattle.cal_value.specs.declared.attribute.Entry.{Entry}
use Rattle.cal_value.specs.declared.kind.Kind as kinds
use Rattle.cal_value.specs.declared.kind.Kind.TheVariants as kind
use Rattle.cal_value.specs.declared.props.Props.{Props}
use Rattle.cal_value.specs.declared.record.Rec.{Rec}
use Rattle.cal_value.specs.declared.variant.Variant.TheVariants as value

-- A node is meant as its path: the entries from the root down to its own (Caliper's context tree).
abbrev pub Node : Type 0
Node = List Entry

-- the same node: the order of entries, one after another, tells no difference
abbrev pub same_node : Node → Node → Bool
same_node = eq_by_cmp path_cmp

-- The attributes that say what an attribute is: its name, its kind and its properties
-- (the `.cali` format).
abbrev pub name_attribute : Attribute
name_attribute =
    record { name = codes "cali.attribute.name"; kind = kind.Str; props = record { 0 = 0 } }

abbrev pub type_attribute : Attribute
type_attribute =
    record { name = codes "cali.attribute.type"; kind = kind.TypeName; props = record { 0 = 0 } }

abbrev pub prop_attribute : Attribute
prop_attribute =
    record { name = codes "cali.attribute.prop"; kind = kind.Int; props = record { 0 = 0 } }

-- the node of a kind, below the root
abbrev pub node_of_kind : kinds.Kind → Node
node_of_kind k = record { attr = type_attribute; value = value.Kind k } ∷ []

-- the node of properties, below the node of a kind; properties 0 have none of their own
abbrev pub node_of_props : Props → kinds.Kind → Node
node_of_props p k =
    if p.0 == 0 then node_of_kind k
    else node_of_kind k ++ record { attr = prop_attribute; value = value.Int (pos p.0) } ∷ []

-- The node of an attribute has its name, and stands below its properties, which stand below its
-- kind (the `.cali` format).
abbrev pub node_of_attribute : Attribute → Node
node_of_attribute a =
    node_of_props a.props a.kind ++ record { attr = name_attribute; value = value.Text a.name } ∷ []

-- the kinds whose nodes come first (this project's profile)
abbrev pub first_kinds : List kinds.Kind
first_kinds =
    kind.Usr ∷ kind.Int ∷ kind.Uint ∷ kind.Str ∷ kind.Addr ∷ kind.Double ∷ kind.Bool
    ∷ kind.TypeName ∷ []

-- The nodes that every stream has, in the order of their ids (this project's profile).
unfoldable pub built_in : List Node
built_in =
    map node_of_kind first_kinds
    ++ map node_of_attribute (name_attribute ∷ type_attribute ∷ prop_attribute ∷ [])
    ++ map node_of_kind (kind.Ptr ∷ [])

-- properties need their node, where they aren't 0; the nodes of kinds are built in
abbrev pub needed_by_props : Attribute → List Node
needed_by_props a = if a.props.0 == 0 then [] else node_of_props a.props a.kind ∷ []

-- an attribute needs what its properties need, and then the node of its name (the `.cali` format)
abbrev pub needed_by_attribute : Attribute → List Node
needed_by_attribute a = needed_by_props a ++ node_of_attribute a ∷ []

-- What a path below a node needs (the order is ours): for each entry from the root, what its
-- attribute needs, and then the entry's node.
abbrev pub needed_below : Node → List Entry → List Node
needed_below up [] = []
needed_below up (e ∷ path) =
    needed_by_attribute e.attr ++ (up ++ e ∷ []) ∷ needed_below (up ++ e ∷ []) path

-- What a record needs: what its paths need, and then what the attributes of its immediates need.
abbrev pub needed_by_record : Rec → List Node
needed_by_record r =
    flat_map (needed_below []) r.paths ++ flat_map (λ e. needed_by_attribute e.attr) r.imms

-- the nodes with one more, which goes last where it is new
abbrev pub with_node : List Node → Node → List Node
with_node ns n = if list_any (same_node n) ns then ns else ns ++ n ∷ []

-- the nodes with those that a record needs, each where it is first needed
abbrev pub with_record : List Node → Rec → List Node
with_record ns r = fold with_node ns (needed_by_record r)

-- The nodes of records: the built-in ones, and then each that is needed, where it is first needed.
abbrev pub nodes : List Rec → List Node
nodes rs = fold with_record built_in rs
