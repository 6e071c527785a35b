use Rattle.cal_closing.proofs.Counting.{closed-counts}
use Rattle.cal_closing.proofs.laws.closed_channel_law.Goals as goal

pub returns : goal.returns
returns c = closed-counts
