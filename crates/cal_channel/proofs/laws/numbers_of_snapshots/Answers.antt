use Rattle.cal_channel.proofs.SmallLemmas.{small-snapshot}
use Rattle.cal_channel.proofs.laws.numbers_of_snapshots.Goals as goal

pub returns : goal.returns
returns c script s channel op mine process reading =
    small-snapshot script s mine process reading channel op
