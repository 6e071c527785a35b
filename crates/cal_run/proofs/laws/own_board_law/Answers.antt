use Rattle.cal_run.proofs.PathLemmas.{own-board}
use Rattle.cal_run.proofs.laws.own_board_law.Goals as goal

pub returns : goal.returns
returns c = own-board
