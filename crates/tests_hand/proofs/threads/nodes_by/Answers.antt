use Rattle.tests_hand.proofs.OneValue.{new_stands}
use Rattle.tests_hand.proofs.threads.nodes_by.Goals as goal

pub open_hundred-opened-requires-clause-stands : goal.open_hundred-opened-requires-clause-stands
open_hundred-opened-requires-clause-stands c =
    new_stands c.args.tree.now c.args.seat.now c.in_ok-board.board c.in_ok-board.ensures
