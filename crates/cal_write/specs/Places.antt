use Rattle.std.specs.Prelude.{◌≡◌, ℕ, true, List, [], ◌∷◌, Option}
use Rattle.std.specs.List.{list_any}
use Rattle.cal_value.specs.declared.attribute.Attribute.{Attribute}
use Rattle.cal_write.specs.Nodes.{Node, same_node}
use Rattle.cal_write.specs.Nodes.{node_of_attribute, needed_by_attribute, needed_below}
use Rattle.cal_write.specs.CanonicalText.{id_in, parent_id}

-- a node is there
abbrev pub Has : List Node → Node → Type 0
Has ns n = list_any (same_node n) ns ≡ true

-- each of these nodes is there
abbrev pub HasAll : List Node → List Node → Type 0
HasAll ns [] = Unit {0}
HasAll ns (n ∷ more) = Has ns n × HasAll ns more

-- a node is there, or is the root
abbrev pub IsThere : List Node → Node → Type 0
IsThere ns [] = Unit {0}
IsThere ns (e ∷ up) = Has ns (e ∷ up)

-- a node is there, with this id
pub record IsAt (ns : List Node) (n : Node) (id : ℕ) : Type 0 where
  pub has : Has ns n
  pub is : id ≡ id_in ns n

-- a node below which others stand is there, with this id; or it is the root, without one
pub record IsParent (ns : List Node) (up : Node) (id : Option ℕ) : Type 0 where
  pub there : IsThere ns up
  pub is : id ≡ parent_id ns up

-- an attribute's node has this id, and all that the attribute needs is there
pub record KnowsAttribute (ns : List Node) (a : Attribute) (id : ℕ) : Type 0 where
  pub at : IsAt ns (node_of_attribute a) id
  pub needed : HasAll ns (needed_by_attribute a)

-- with a node all is there that is needed on the way down to it
abbrev pub IsClosed : List Node → Type 0
IsClosed ns = (n : Node) → Has ns n → HasAll ns (needed_below [] n)
