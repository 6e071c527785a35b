-- What is held of the nodes of a stream, over a context (private).
use Rattle.std.specs.Prelude.{◌≡◌, ℕ, ◌<◌, List, Option, Some, None, length, map, nat_eq}
use Rattle.cal_context.specs.Tree.{Tree, attribute_at, path_at}
use Rattle.cal_context.specs.declared.numbers.AttributeNumber.{AttributeNumber}
use Rattle.cal_value.specs.declared.attribute.Attribute.{Attribute}
use Rattle.indexmap.specs.IndexMap.{get}
use Rattle.cal_read.specs.Nodes.{Step, Node, Named, steps_to, kind_below, props_below}
use Rattle.cal_read.specs.Nodes.{attribute_of, node_at}
use Rattle.cal_read.specs.InTurn.{in_turn_at}
use Rattle.cal_read.specs.declared.nodes.Held.{Held}
use Rattle.cal_read.specs.declared.nodes.Nodes.{Nodes}
use Rattle.cal_read.specs.declared.nodes.Place.{Place}

-- what is there, or else this
abbrev pub or_else : Option Held → Option Held → Option Held
or_else (Some h) other = Some h
or_else None other = other

-- what is held of the node of an id, in turn or beside
abbrev pub held_at : Nodes → ℕ → Option Held
held_at nodes id = or_else (in_turn_at nodes.in_turn id) (get nat_eq nodes.map id)

-- a place is that behind these steps
pub record IsAt (t : Tree) (place : Place) (steps : List Step) : Type 0 where
  pub within : place.node.0 < length t.paths
  pub path : path_at t place.node ≡ map (λ s. s.entry) steps
  pub depth : place.depth ≡ length steps
  pub kind : place.kind ≡ kind_below steps
  pub props : place.props ≡ props_below steps

-- a number is that of an attribute, where there is one
abbrev pub IsNumberOf : Tree → Option AttributeNumber → Option Attribute → Type 0
IsNumberOf t None None = Unit {0}
IsNumberOf t None (Some a) = ⊥
IsNumberOf t (Some number) None = ⊥
IsNumberOf t (Some number) (Some a) =
    (number.0 < length t.attributes) × (attribute_at t number ≡ a)

-- what is held of a node is right
pub record IsHeld (t : Tree) (h : Held) (n : Node) : Type 0 where
  pub below : 0 < h.place.node.0
  pub at : IsAt t h.place (steps_to n)
  pub attribute : h.attribute ≡ n.own.attribute
  pub parent : h.parent ≡ n.parent
  pub number : IsNumberOf t h.number (attribute_of n)

abbrev pub IsHeldIf : Tree → Option Held → Option Node → Type 0
IsHeldIf t None None = Unit {0}
IsHeldIf t None (Some n) = ⊥
IsHeldIf t (Some h) None = ⊥
IsHeldIf t (Some h) (Some n) = IsHeld t h n

-- what is held is right for each id
abbrev pub AreHeld : Tree → Nodes → List Named → Type 0
AreHeld t nodes named = (id : ℕ) → IsHeldIf t (held_at nodes id) (node_at named id)

-- some nodes are held
abbrev pub HoldsSome : Tree → Nodes → Type 0
HoldsSome t nodes = (named : List Named) × AreHeld t nodes named
