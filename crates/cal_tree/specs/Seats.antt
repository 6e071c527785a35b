use Rattle.std.specs.Prelude.{ℕ, ◌<◌, List, All}
use Rattle.cal_value.specs.declared.attribute.Attribute.{Attribute}
use Rattle.cal_words.specs.declared.sort.NodeSort.{NodeSort}
use Rattle.cal_words.specs.declared.sort.RecSort.{Ghosts as RecSort}
use Rattle.cal_words.specs.Homes.{node_home}
use Rattle.cal_words.specs.Records.{IsNode, IsNode-long}
use Rattle.cal_once.specs.declared.seat.RowSeat.{RowSeat}
use Rattle.cal_once.specs.declared.view.Plan.{Plan}
use Rattle.cal_once.specs.Seats as rows
use Rattle.cal_once.specs.Seats.{IsSeatOf, view}
use Rattle.cal_once.specs.Sound.{IsSound}
use Rattle.cal_tree.specs.declared.tree.Tree.{Tree}
use Rattle.cal_tree.specs.Paths.{Fits, HasPath, KnowsNode, NodeEntry}

-- the sort of the tree's records
abbrev pub node_law : RecSort NodeSort
node_law = record {
  is_record = λ _ words. IsNode words;
  home_of = node_home;
  may_publish = λ _ _ _. Unit {0};
  has_parent = λ _. IsNode-long;
}

-- the shape of a tree, with its sort
abbrev pub plan_of : Tree → Plan NodeSort
plan_of tree = rows.plan_of tree.rows

abbrev pub slots_of : Tree → ℕ
slots_of tree = (plan_of tree).shape.slots

-- the seat is one of this tree's, and what it knows is sound: each call keeps this
pub record IsTreeSeat (tree : Tree) (seat : RowSeat NodeSort) : Type 0 where
  pub at : IsSeatOf tree.rows seat
  pub sound : IsSound node_law (plan_of tree) (view seat)

-- the seat knows the node
abbrev pub IsKnownNode : Tree → RowSeat NodeSort → ℕ → Type 0
IsKnownNode tree seat node = KnowsNode (slots_of tree) (view seat) node

-- the node's path from the root down, as the seat knows
abbrev pub IsPathOf : Tree → RowSeat NodeSort → List NodeEntry → ℕ → Type 0
IsPathOf tree seat path node = HasPath (slots_of tree) (view seat) path node

-- a node below the root whose path the seat knows, with attributes of this list and values of their
-- kinds
pub record CanSpell (tree : Tree) (seat : RowSeat NodeSort) (attrs : List Attribute) (node : ℕ)
    : Type 0 where
  pub below : 0 < node
  pub path : List NodeEntry
  pub known : IsPathOf tree seat path node
  pub fits : All (Fits attrs) path
