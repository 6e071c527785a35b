use Rattle.cal_thread.proofs.ThreadLemmas.{line-done}
use Rattle.cal_thread.proofs.laws.line_done_law.Goals as goal

pub returns : goal.returns
returns c = line-done
