use Rattle.cal_query.proofs.Layouts.{sees_plain}
use Rattle.cal_query.proofs.seeing.see_plain.Goals as goal

pub returns-clause-taken : goal.returns-clause-taken
returns-clause-taken g c =
    let read = c.in_ok-read.ensures.read in
    sees_plain g.T.Taker.has_taken c.args.limit _ read.0 c.in_ok-read.read read.1 read.2
