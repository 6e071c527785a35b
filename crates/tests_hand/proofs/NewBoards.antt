-- What a new board stands for.
use Rattle.std.proofs.Common.{◌≡◌, refl, sym, subst}
use Rattle.cal_board.specs.Blackboard.{Blackboard, nothing_open}
use Rattle.cal_board.specs.Standing.{Stands, StandsForSome}
use Rattle.cal_hand.specs.Nodes.{NodeAt}
use Rattle.cal_once.specs.declared.seat.RowSeat.{RowSeat}
use Rattle.cal_tree.specs.declared.tree.Tree.{Tree}
use Rattle.cal_words.specs.declared.node.NodeId.{NodeId}
use Rattle.cal_words.specs.declared.sort.NodeSort.{NodeSort}

-- a new board stands for one on which nothing is open
pub new_stands : (tree : Tree) (seat : RowSeat NodeSort) (held : Blackboard NodeId)
    → held ≡ nothing_open → StandsForSome (NodeAt tree seat) held
new_stands tree seat held fresh = (
  nothing_open,
  subst (λ (h : Blackboard NodeId). Stands (NodeAt tree seat) h nothing_open) (sym fresh)
      (record { references = tt; as_values = refl }),
)
