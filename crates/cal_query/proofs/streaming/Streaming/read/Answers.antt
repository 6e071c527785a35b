use Rattle.std.proofs.lemmas.Result.{err_from_is_err_and}
use Rattle.cal_query.proofs.Stops.{stops_reading}
use Rattle.cal_query.proofs.streaming.Streaming.read.Goals as goal

pub returns-in_err-feed_all-clause-refused : goal.returns-in_err-feed_all-clause-refused
returns-in_err-feed_all-clause-refused g c =
    let gone = c.from_residual in
    let p = err_from_is_err_and gone.result gone.ensures.1 in
    rw (p.1, p.2) (stops_reading _ c.args.limit _ c.in_err-feed_all.ensures.refused)
