-- Boards of nodes of the tree that the threads of a run have in common.
use Rattle.cal_board.specs.Blackboard.{Blackboard}
use Rattle.cal_hand.specs.Nodes.{NodeAt}
use Rattle.cal_once.specs.declared.seat.RowSeat.{RowSeat}
use Rattle.cal_process.specs.declared.common.Common.{Common}
use Rattle.cal_run.specs.Held.{HoldsBy}
use Rattle.cal_value.specs.declared.variant.Variant.{Variant}
use Rattle.cal_words.specs.declared.node.NodeId.{NodeId}
use Rattle.cal_words.specs.declared.sort.NodeSort.{NodeSort}

module _ (common : Common) where
  -- A board of nodes stands for this board, as a seat of the tree knows, and its attributes are the
  -- script's.
  abbrev pub Held : RowSeat NodeSort → Blackboard NodeId → Blackboard Variant → Type 0
  Held seat held b = HoldsBy (NodeAt common.tree seat) common.script.now held b

  -- for some board
  abbrev pub HeldSome : RowSeat NodeSort → Blackboard NodeId → Type 0
  HeldSome seat held = (b : Blackboard Variant) × Held seat held b

  -- what the board stood for before, changed so, it stands for now
  abbrev pub HeldThen : (was is : RowSeat NodeSort) → (old new : Blackboard NodeId)
      → (Blackboard Variant → Blackboard Variant) → Type 0
  HeldThen was is old new change =
      (b : Blackboard Variant) → Held was old b → Held is new (change b)
