use Rattle.tests_hand.proofs.OneValue.{new_stands}
use Rattle.tests_hand.proofs.boards.wrong_on.Goals as goal

pub open_slots-requires-clause-stands : goal.open_slots-requires-clause-stands
open_slots-requires-clause-stands c =
    new_stands c.args.tree.now c.args.seat.now c.in_ok-board.board c.in_ok-board.ensures
