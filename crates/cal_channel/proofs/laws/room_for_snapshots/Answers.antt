use Rattle.cal_channel.proofs.LawLemmas.{few-snapshots}
use Rattle.cal_channel.proofs.laws.room_for_snapshots.Goals as goal

pub returns : goal.returns
returns c = few-snapshots
