use Rattle.cal_board.specs.Standing.{StandsForSome}
use Rattle.cal_hand.specs.Nodes.{NodeAt}
use Rattle.cal_tree.specs.Seats.{IsTreeSeat}
use Rattle.tests_hand.proofs.trees.do_lines.Given as goal

-- the board stands for what its seat knows
abbrev pub invariant-loop-number : goal.invariant-loop-number
invariant-loop-number l = record {
  seat : IsTreeSeat l.tree l.seat;
  stands : StandsForSome (NodeAt l.tree l.seat) l.board;
}
