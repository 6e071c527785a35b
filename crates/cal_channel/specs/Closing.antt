-- The node whose value a line closes, which is read before its snapshots are taken.
use Rattle.std.specs.Prelude.{◌≡◌, List, Option, Some}
use Rattle.cal_board.specs.Blackboard.{Blackboard}
use Rattle.cal_board.specs.PathBoards.{last_opened}
use Rattle.cal_board.specs.declared.opened.Opened.{Opened}
use Rattle.cal_channel.specs.declared.closing.ClosedNode.{ClosedNode}
use Rattle.cal_hand.specs.Nodes.{NodeAt}
use Rattle.cal_once.specs.declared.seat.RowSeat.{RowSeat}
use Rattle.cal_run.specs.Adding.{MayAskFor}
use Rattle.cal_run.specs.declared.moment.Moment.{Moment}
use Rattle.cal_run.specs.declared.operation.Operation.{Operation}
use Rattle.cal_script.specs.declared.script.Script.{Script}
use Rattle.cal_tree.specs.declared.tree.Tree.{Tree}
use Rattle.cal_value.specs.declared.variant.Variant.{Variant}
use Rattle.cal_words.specs.declared.node.NodeId.{NodeId}
use Rattle.cal_words.specs.declared.sort.NodeSort.{NodeSort}

-- the last of open values is this one
pub record EndsWith (path : List (Opened Variant)) (value : Variant) : Type 0 where
  pub last : Opened Variant
  pub is_last : last_opened path ≡ Some last
  pub is_value : last.value ≡ value

module _ (tree : Tree) (seat : RowSeat NodeSort) where
  -- a node's own value, with which all open values end that it stands for
  abbrev pub IsOwnValue : NodeId → Variant → Type 0
  IsOwnValue node value =
      (path : List (Opened Variant)) → NodeAt tree seat node path → EndsWith path value

  -- the node was read
  pub record IsRead (closed : Option ClosedNode) (node : NodeId) : Type 0 where
    pub value : Variant
    pub there : closed ≡ Some (record { node = node; value = value })
    pub own : IsOwnValue node value

  -- The node that an operation closes on these boards, if it closes one, was read.
  abbrev pub HasRead : Script → Option ClosedNode → (board process : Blackboard NodeId)
      → Option Operation → Type 0
  HasRead script closed board process op = (moment : Moment NodeId) → moment.board.now ≡ board
      → moment.process.now ≡ process → MayAskFor (IsRead closed) script moment op
