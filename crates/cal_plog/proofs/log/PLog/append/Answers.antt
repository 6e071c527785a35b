use Rattle.std.proofs.Common.{◌≡◌, ◌+◌, Bool, true, false, refl, inl, sym}
use Rattle.cal_words.specs.Words.{op_words}
use Rattle.cal_once.specs.declared.answer.Put.TheVariants.{Placed}
use Rattle.cal_once.specs.Seats.{view}
use Rattle.cal_once.specs.Puts.{Answers}
use Rattle.cal_plog.specs.Answers.{IsAppended, op_ask}
use Rattle.cal_plog.specs.Seats.{plan_of}
use Rattle.cal_plog.proofs.Appending.{passes, is_appended, not_found}
use Rattle.cal_plog.proofs.log.PLog.append.Goals as goal

pub put-requires-clause-may : goal.put-requires-clause-may
put-requires-clause-may c = record { is_record = record { op = c.args.op; among = c.requires.among; small = c.know_op.ensures; spelled = refl }; may_publish = c.requires.thread; parent = inl (refl, refl) }

pub put-requires-clause-before : goal.put-requires-clause-before
put-requires-clause-before c = passes (plan_of c.args.self.now) (view c.args.seat.now) c.requires.seat.sound c.args.op c.args.from c.requires.from c.requires.thread c.requires.line c.requires.known

pub returns-in-Placed-clause-answer : goal.returns-in-Placed-clause-answer
returns-in-Placed-clause-answer c = by_fresh c.in-Placed._fresh c.in-Placed.ensures.answer
  where
    by_fresh : (fresh : Bool) → Answers (op_ask (plan_of c.args.self.now) c.args.op) (view c.args.seat.now) (view c.put.new.seat) (Placed c.in-Placed.place fresh) → IsAppended (plan_of c.args.self.now) c.args.op (view c.args.seat.now) (view c.put.new.seat) c.in-Placed.place
    by_fresh true a = is_appended (plan_of c.args.self.now) (view c.args.seat.now) (view c.put.new.seat) c.put.ensures.sound c.args.op c.requires.thread c.requires.line c.in-Placed.place a
    by_fresh false a = absurd (not_found (plan_of c.args.self.now) (view c.args.seat.now) (view c.put.new.seat) c.put.ensures.sound c.args.op c.requires.thread c.requires.line c.in-Placed.place a.0 a.1)
