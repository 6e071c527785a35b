-- The way from a node up to one that has a number, and down again.
use Rattle.std.specs.Prelude.{◌≡◌, ◌⊎◌, ◌+◌, ◌<◌, ◌≤◌, List, [], ◌∷◌, ◌++◌, length, map, All}
use Rattle.std.specs.Prelude.{Option, Some}
use Rattle.std.specs.Prelude.{Result, IfOk}
use Rattle.cal_board.specs.Contexts.{NodeStands}
use Rattle.cal_board.specs.declared.opened.Opened.{Opened}
use Rattle.cal_context.specs.Lists.{IsFront}
use Rattle.cal_context.specs.Tree as contexts
use Rattle.cal_context.specs.declared.numbers.NodeNumber.{NodeNumber}
use Rattle.cal_hand.specs.Nodes.{NodeAt, node_entry}
use Rattle.cal_nodes.specs.Numbers.{AreNumbered, KeepsNumbers, number_in}
use Rattle.cal_nodes.specs.declared.way.Step.{Step}
use Rattle.cal_once.specs.declared.seat.RowSeat.{RowSeat}
use Rattle.cal_tree.specs.Seats.{IsPathOf, IsTreeSeat}
use Rattle.cal_tree.specs.declared.tree.Tree.{Tree}
use Rattle.cal_tree.specs.declared.up.Up.{Up}
use Rattle.cal_value.specs.declared.memory.OutOfMemory.{OutOfMemory}
use Rattle.cal_value.specs.declared.variant.Variant.{Variant}
use Rattle.cal_words.specs.declared.node.NodeId.{NodeId}
use Rattle.cal_words.specs.declared.sort.NodeSort.{NodeSort}

-- the open value of a node's own entry
abbrev pub opened_of : Step → Opened Variant
opened_of s = record { attribute = s.attr; value = s.value }

-- each node that a context has more stands for a beginning of these open values
abbrev pub AddsFronts : contexts.Tree → contexts.Tree → List (Opened Variant) → Type 0
AddsFronts old new path = (n : NodeNumber) → length old.paths ≤ n.0 → n.0 < length new.paths
    → (front : List (Opened Variant)) × IsFront front path × NodeStands new n front

module _ (tree : Tree) (seat : RowSeat NodeSort) where
  -- The steps from the node of a path up to that of another one, the innermost first: each is the
  -- node of the path that is left, and takes the last value away.
  abbrev pub Climbs : List (Opened Variant) → List Step → List (Opened Variant) → Type 0
  Climbs path [] above = path ≡ above
  Climbs path (s ∷ steps) above = (front : List (Opened Variant)) × NodeAt tree seat s.node path
      × (path ≡ front ++ opened_of s ∷ []) × Climbs front steps above

  -- the node of a path has this number; no value is the path of the context's root
  abbrev pub HasNumber : List (Option NodeNumber) → List (Opened Variant) → NodeNumber → Type 0
  HasNumber numbers path n = ((path ≡ []) × (n ≡ record { 0 = 0 }))
      ⊎ ((node : NodeId) × NodeAt tree seat node path × (number_in numbers node ≡ Some n))

  -- a node was read and put behind the steps; its parent has the path without the last value
  pub record IsStepUp (old new : List Step) (node : NodeId) (up : Up) : Type 0 where
    pub step : Step
    pub pushed : new ≡ old ++ step ∷ []
    pub node_is : step.node ≡ node
    pub parent : (path : List (Opened Variant)) (o : Opened Variant)
        → NodeAt tree seat node (path ++ o ∷ [])
        → IsPathOf tree seat (map node_entry path) up.parent.0
        × (o ≡ opened_of step) × (up.depth ≡ length path + 1)

  module _ (t : contexts.Tree) (numbers : List (Option NodeNumber)) where
    -- steps up from the node of a path to one that has this number
    pub record IsWay (n : NodeNumber) (steps : List Step) (path : List (Opened Variant))
        : Type 0 where
      pub is_seat : IsTreeSeat tree seat
      pub numbered : AreNumbered tree seat t numbers
      pub above : List (Opened Variant)
      pub climbs : Climbs path steps above
      pub start : HasNumber numbers above n

    -- Some of the steps were put into the context, and perhaps all of them: then the node of the
    -- path has the number that is given.
    pub record IsPut (was : contexts.Tree) (old : List (Option NodeNumber))
        (path : List (Opened Variant)) (given : Result NodeNumber OutOfMemory) : Type 0 where
      pub numbered : AreNumbered tree seat t numbers
      pub keeps : KeepsNumbers old numbers
      pub only : AddsFronts was t path
      pub number : IfOk given (HasNumber numbers path)

-- the number is one of the context's, and the steps are by attributes there and of nodes that have
-- a place in the list
pub record CanDescend (t : contexts.Tree) (numbers : List (Option NodeNumber)) (n : NodeNumber)
    (steps : List Step) : Type 0 where
  pub start : n.0 < length t.paths
  pub attributes : All (λ (s : Step). s.attr < length t.attributes) steps
  pub places : All (λ (s : Step). s.node.0 < length numbers) steps
