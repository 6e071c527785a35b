use Rattle.cal_results.proofs.Meanings.{records_later}
use Rattle.cal_results.proofs.laws.traces_mean_for_good.Goals as goal

pub returns : goal.returns
returns c script tree was is old new snaps recs learned grows m =
    records_later script tree old new grows.attributes was is learned snaps recs m
