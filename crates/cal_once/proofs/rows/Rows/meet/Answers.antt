use Rattle.std.proofs.Common.{rules}
use Rattle.cal_once.specs.Puts.{ask_for}
use Rattle.cal_once.specs.Seats.{plan_of}
use Rattle.cal_once.specs.Views.{Holds}
use Rattle.cal_once.proofs.Answering.{reached_later}
use Rattle.cal_once.proofs.rows.Rows.meet.Goals as goal

pub returns-then-compare-clause-visits : goal.returns-then-compare-clause-visits
returns-then-compare-clause-visits g c =
    let words = g.P.Packed.words c.args.rec.now in
    let ask = ask_for g.S.RecSort (plan_of c.args.self.now) words in
    let holds : Holds c.compare.new.seat.me.0 c.args.at.place words = search rules in (
      record {
        distance = c.args.at.distance;
        reached = reached_later ask c.args.seat.now.me.0 c.compare.new.seat.me.0 c.args.at.place c.args.at.distance c.compare.ensures.learns.more c.requires.at;
        holds = holds;
      },
      c.compare.ensures.learns,
    )
