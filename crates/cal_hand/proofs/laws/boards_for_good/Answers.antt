use Rattle.cal_once.specs.Views.{joined}
use Rattle.cal_once.proofs.Seen.{Saw_right}
use Rattle.cal_hand.proofs.HandLemmas.{board_later}
use Rattle.cal_hand.proofs.laws.boards_for_good.Goals as goal

pub returns-clause-later : goal.returns-clause-later
returns-clause-later c slots v w held b more is = board_later slots v w held b more is

pub returns-clause-other : goal.returns-clause-other
returns-clause-other c slots v w held b is =
    board_later slots w (joined v w) held b (λ i x saw. Saw_right v.seen w.seen i x saw) is
