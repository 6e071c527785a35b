use Rattle.cal_replay.proofs.ShownLines.{shown-at-start}
use Rattle.cal_replay.proofs.shown_laws.shown_at_start_law.Goals as goal

pub returns : goal.returns
returns c = shown-at-start
