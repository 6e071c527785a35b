-- Which nodes of a shared tree have numbers in a context, by a list with a place for each node.
use Rattle.std.specs.Prelude.{◌≡◌, ℕ, ◌<◌, ◌≤◌, List, length, slice_index_or, Option, Some, None}
use Rattle.std.specs.Prelude.{All}
use Rattle.cal_board.specs.Contexts.{NodeStands}
use Rattle.cal_board.specs.declared.opened.Opened.{Opened}
use Rattle.cal_context.specs.Lists.{IsFront}
use Rattle.cal_context.specs.Tree as contexts
use Rattle.cal_context.specs.declared.numbers.NodeNumber.{NodeNumber}
use Rattle.cal_hand.specs.Nodes.{NodeAt}
use Rattle.cal_once.specs.declared.seat.RowSeat.{RowSeat}
use Rattle.cal_tree.specs.Seats.{IsKnownNode, slots_of}
use Rattle.cal_tree.specs.declared.tree.Tree.{Tree}
use Rattle.cal_value.specs.declared.variant.Variant.{Variant}
use Rattle.cal_words.specs.declared.node.NodeId.{NodeId}
use Rattle.cal_words.specs.declared.sort.NodeSort.{NodeSort}

-- the number of a node, if it has one
abbrev pub number_in : List (Option NodeNumber) → NodeId → Option NodeNumber
number_in numbers node = slice_index_or numbers node.0 None

-- it has one
abbrev pub IsNumbered : List (Option NodeNumber) → NodeId → Type 0
IsNumbered numbers node = (n : NodeNumber) × (number_in numbers node ≡ Some n)

-- whatever had a number has it still
abbrev pub KeepsNumbers : List (Option NodeNumber) → List (Option NodeNumber) → Type 0
KeepsNumbers old new = (node : NodeId) (n : NodeNumber)
    → number_in old node ≡ Some n → number_in new node ≡ Some n

-- a node below the root that the seat knows, with its place in the list of numbers
pub record IsMet (tree : Tree) (seat : RowSeat NodeSort) (numbers : List (Option NodeNumber))
    (node : NodeId) : Type 0 where
  pub place : node.0 < length numbers
  pub known : IsKnownNode tree seat node.0
  pub below : 0 < node.0

module _ (tree : Tree) (seat : RowSeat NodeSort) (t : contexts.Tree) where
  -- A node can be put into the context: the seat knows which open values are its path, and the
  -- attributes of these have their numbers there.
  pub record CanNumber (node : NodeId) : Type 0 where
    pub path : List (Opened Variant)
    pub node_at : NodeAt tree seat node path
    pub listed : All (λ (o : Opened Variant). o.attribute < length t.attributes) path

  -- the number stands in the context for the open values that are the node's path
  pub record StandsFor (n : NodeNumber) (node : NodeId) : Type 0 where
    pub path : List (Opened Variant)
    pub node_at : NodeAt tree seat node path
    pub stands : NodeStands t n path

  -- each node of the tree has its place, and each number stands for its node
  pub record AreNumbered (numbers : List (Option NodeNumber)) : Type 0 where
    pub long : slots_of tree < length numbers
    pub each : (node : NodeId) (n : NodeNumber) → number_in numbers node ≡ Some n → StandsFor n node

  -- the number stands in the context for the node or for one above it: for a beginning of its path
  pub record IsOnWay (n : NodeNumber) (node : NodeId) : Type 0 where
    pub path : List (Opened Variant)
    pub node_at : NodeAt tree seat node path
    pub front : List (Opened Variant)
    pub begins : IsFront front path
    pub stands : NodeStands t n front

  -- each node that the context has more is on the way to this one
  abbrev pub AddsWay : contexts.Tree → NodeId → Type 0
  AddsWay old node = (n : NodeNumber) → length old.paths ≤ n.0 → n.0 < length t.paths
      → IsOnWay n node

  -- or to one of these
  abbrev pub AddsWays : contexts.Tree → List NodeId → Type 0
  AddsWays old nodes = (n : NodeNumber) → length old.paths ≤ n.0 → n.0 < length t.paths
      → (k : ℕ) × (k < length nodes) × IsOnWay n (slice_index_or nodes k (record { 0 = 0 }))
