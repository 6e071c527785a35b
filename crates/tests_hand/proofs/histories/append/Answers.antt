use Rattle.tests_hand.proofs.Appends.{own-answered}
use Rattle.cal_once.specs.Seats.{view}
use Rattle.cal_plog.specs.Seats.{plan_of}
use Rattle.tests_hand.proofs.histories.append.Goals as goal

pub returns-clause-line : goal.returns-clause-line
returns-clause-line c =
    own-answered (plan_of c.args.log.now) c.args.op (view c.args.seat.now) (view c.append.new.seat)
    c.append.result c.append.ensures.later c.requires.line c.append.ensures.answer
