-- The nodes of a stream, by their ids.
use Rattle.std.specs.Prelude.{ℕ, pos, ◌==◌, ◌^◌, nat_lt, List, [], ◌∷◌, ◌++◌, map, fold}
use Rattle.std.specs.Prelude.{Option, Some, None, unwrap_or, if◌then◌else◌}
use Rattle.std.specs.Option.{option_and_then, option_map}
use Rattle.cal_value.specs.declared.attribute.Attribute.{Attribute}
use Rattle.cal_value.specs.declared.attribute.Entry.{Entry}
use Rattle.cal_value.specs.declared.kind.Kind as kinds
use Rattle.cal_value.specs.declared.variant.Variant as variants
use Rattle.cal_value.specs.declared.variant.Variant.TheVariants as value

-- A step of a path: the id of its attribute, and its entry.
pub record Step : Type 0 where
  pub attribute : ℕ
  pub entry : Entry

-- A node of a stream: its own step, the id of its parent, and the steps above it, from the root
-- down.
pub record Node : Type 0 where
  pub own : Step
  pub parent : Option ℕ
  pub above : List Step

-- the steps down to a node, its own the last
abbrev pub steps_to : Node → List Step
steps_to n = n.above ++ n.own ∷ []

-- the path of a node: the entries of its steps
abbrev pub path_of : Node → List Entry
path_of n = map (λ s. s.entry) (steps_to n)

-- the value of the nearest of the steps above that has this attribute, which is the last of them
abbrev pub nearest : ℕ → List Step → Option variants.Variant
nearest attribute steps =
    fold (λ found s. if s.attribute == attribute then Some s.entry.value else found) None steps

-- the kind that a value is, the properties that it is, from 0 to 4294967295, and its text
abbrev pub kind_in : variants.Variant → Option kinds.Kind
kind_in (value.Kind k) = Some k
kind_in _ = None

abbrev pub props_in : variants.Variant → Option ℕ
props_in (value.Int (pos n)) = if nat_lt n (2 ^ 32) then Some n else None
props_in _ = None

abbrev pub text_in : variants.Variant → List ℕ
text_in (value.Text t) = t
text_in _ = []

-- below these steps an attribute has this kind, if any, and these properties (the `.cali` format)
abbrev pub kind_below : List Step → Option kinds.Kind
kind_below steps = option_and_then kind_in (nearest 9 steps)

abbrev pub props_below : List Step → ℕ
props_below steps = unwrap_or (option_and_then props_in (nearest 10 steps)) 0

-- the attribute of this name, where there is a kind
abbrev pub attribute_named : List ℕ → Option kinds.Kind → ℕ → Option Attribute
attribute_named name kind props =
    option_map (λ k. record { name = name; kind = k; props = record { 0 = props } }) kind

-- A node is an attribute where its own attribute is that of names: its value is the name, and the
-- kind and the properties stand above it (the `.cali` format).
abbrev pub attribute_of : Node → Option Attribute
attribute_of n =
    if n.own.attribute == 8
    then attribute_named (text_in n.own.entry.value) (kind_below n.above) (props_below n.above)
    else None

-- a node with its id
pub record Named : Type 0 where
  pub id : ℕ
  pub node : Node

-- the node of an id, among nodes each of which has its own
abbrev pub node_at : List Named → ℕ → Option Node
node_at [] id = None
node_at (named ∷ nodes) id = if named.id == id then Some named.node else node_at nodes id
