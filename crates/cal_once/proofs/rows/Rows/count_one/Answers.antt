use Rattle.std.proofs.Common.{ap}
use Rattle.cal_once.proofs.Counts.{known_count-filled}
use Rattle.cal_once.proofs.rows.Rows.count_one.Goals as goal

pub returns-clause-known : goal.returns-clause-known
returns-clause-known g c = known_count-filled c.args.place c.load.result c.args.seat.now.me.0 c.load.new.seat.me.0 (ap (λ m. m.0) c.load.ensures.looked.view) c.if-load-eq0.false
