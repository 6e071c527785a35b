use Rattle.cal_closing.proofs.Counting.{share-of}
use Rattle.cal_closing.proofs.laws.thread_share_law.Goals as goal

pub returns : goal.returns
returns c = share-of
