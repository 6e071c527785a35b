-- The last entry of a slot of a board over the shared tree.
use Rattle.std.specs.Prelude.{◌≡◌, ◌<◌, List, length, Some}
use Rattle.cal_board.specs.Blackboard.{Blackboard}
use Rattle.cal_board.specs.PathBoards.{last_at}
use Rattle.cal_board.specs.Standing.{Stands}
use Rattle.cal_board.specs.declared.attr.AttrRef.{AttrRef}
use Rattle.cal_board.specs.declared.opened.Opened.{Opened}
use Rattle.cal_hand.specs.Nodes.{NodeAt}
use Rattle.cal_once.specs.declared.seat.RowSeat.{RowSeat}
use Rattle.cal_tree.specs.declared.tree.Tree.{Tree}
use Rattle.cal_value.specs.declared.attribute.Attribute.{Attribute}
use Rattle.cal_value.specs.declared.variant.Variant.{Variant}
use Rattle.cal_words.specs.declared.node.NodeId.{NodeId}
use Rattle.cal_words.specs.declared.sort.NodeSort.{NodeSort}

-- the slot holds a value, whose attribute's number is in the list
pub record HoldsLast (tree : Tree) (seat : RowSeat NodeSort) (held : Blackboard NodeId)
    (attrs : List Attribute) (a : AttrRef) : Type 0 where
  pub board : Blackboard Variant
  pub stands : Stands (NodeAt tree seat) held board
  pub last : Opened Variant
  pub is_last : last_at board a ≡ Some last
  pub listed : last.attribute < length attrs
