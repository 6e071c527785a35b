use Rattle.cal_plog.proofs.Joins.{is_joined, published_none, published_own, stays_joined}
use Rattle.cal_plog.proofs.laws.published_by.Goals as goal

pub returns-clause-joined : goal.returns-clause-joined
returns-clause-joined c v w thread number within = is_joined v w thread number within

pub returns-clause-stays : goal.returns-clause-stays
returns-clause-stays c v w other thread places number apart is = stays_joined v w other thread places number apart is

pub returns-clause-own : goal.returns-clause-own
returns-clause-own c plan v thread places sound first is place op has same =
    published_own plan v thread places sound first is place op has same

pub returns-clause-others : goal.returns-clause-others
returns-clause-others c plan v thread places sound first is place op has other =
    published_none plan v thread places sound first is place op has other
