-- The room that a tree has for the node of a value which a line opens.
use Rattle.std.specs.Prelude.{◌≡◌, ℕ, ◌+◌, ◌<◌, ◌≤◌, false}
use Rattle.cal_board.specs.declared.attr.AttrRef.{AttrRef}
use Rattle.cal_hand.specs.declared.change.Change as changes
use Rattle.cal_hand.specs.declared.change.Change.TheVariants as change
use Rattle.cal_once.specs.Seats.{view}
use Rattle.cal_once.specs.Views.{Knows}
use Rattle.cal_once.specs.declared.seat.RowSeat.{RowSeat}
use Rattle.cal_tree.specs.Seats.{IsTreeSeat, plan_of, slots_of}
use Rattle.cal_tree.specs.declared.tree.Tree.{Tree}
use Rattle.cal_value.specs.declared.variant.Variant.{Variant}
use Rattle.cal_words.specs.Words.{node_length}
use Rattle.cal_words.specs.declared.sort.NodeSort.{NodeSort}

-- A seat may make the node of a value: its arena has room for the words, and there are so many
-- slots that no seat ever knows all of them.
pub record HasNodeRoom (tree : Tree) (seat : RowSeat NodeSort) (value : Variant) : Type 0 where
  pub words : (view seat).used + node_length value ≤ (plan_of tree).shape.arena
  pub slots : (other : RowSeat NodeSort) → IsTreeSeat tree other
      → ¬ ((place : ℕ) → place < slots_of tree → Knows (view other) place)

-- it may make the node that a line of an attribute needs, where it keeps nodes
abbrev pub HasRoomIn : Tree → RowSeat NodeSort → AttrRef → Variant → Type 0
HasRoomIn tree seat a value = a.as_value ≡ false → HasNodeRoom tree seat value

-- and the one that a change may make
abbrev pub HasRoomToChange : Tree → RowSeat NodeSort → AttrRef → changes.Change → Type 0
HasRoomToChange tree seat a (change.Begin v) = HasRoomIn tree seat a v.now
HasRoomToChange tree seat a change.End = Unit {0}
HasRoomToChange tree seat a (change.Set v) = HasRoomIn tree seat a v.now
