use Rattle.tests_hand.proofs.NewBoards.{new_stands}
use Rattle.tests_hand.proofs.trees.is_right.Goals as goal

pub is_right_on-right-requires-clause-stands : goal.is_right_on-right-requires-clause-stands
is_right_on-right-requires-clause-stands c =
    new_stands c.args.tree.now c.args.seat.now c.in_ok-board.board c.in_ok-board.ensures
