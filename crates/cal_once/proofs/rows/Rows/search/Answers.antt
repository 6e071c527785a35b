use Rattle.std.proofs.Common.{◌≡◌, ◌+◌, ◌%◌, ap, ◌∙◌, subst, arith}
use Rattle.cal_once.specs.Puts.{ask_for, place_at}
use Rattle.cal_once.specs.Views.{HoldsOther}
use Rattle.cal_once.specs.Seats.{plan_of}
use Rattle.cal_once.proofs.Learning.{learns_peek, learns_then}
use Rattle.cal_once.proofs.Answering.{all_others, answers_then, passes_more}
use Rattle.cal_once.proofs.rows.Rows.search.Goals as goal

pub returns-in-Some-clause-answer : goal.returns-in-Some-clause-answer
returns-in-Some-clause-answer g c =
    let inv = c.loop-distance.invariant in
    answers_then (ask_for g.S.RecSort (plan_of c.args.self.now) (g.P.Packed.words c.args.rec.now)) c.args.seat.now.me.0 c.loop-distance.seat.me.0 c.visit.new.seat.me.0 inv.learns c.in-Some.answer c.in-Some.ensures.visits

pub returns-clause-answer : goal.returns-clause-answer
returns-clause-answer g c =
    let inv = c.loop-distance.invariant in
    let ask = ask_for g.S.RecSort (plan_of c.args.self.now) (g.P.Packed.words c.args.rec.now) in
    let last = learns_peek c.args.home c.load-slot.result c.loop-distance.seat.me.0 c.load-slot.new.seat.me.0 (ap (λ m. m.0) c.load-slot.ensures.looked.view) in
    let slots = ap (λ p. p.shape.slots) c.args.self.now.plan_is in
    let homes = ap (λ p. p.shape.homes) c.args.self.now.plan_is in
    let enough = c.args.self.now.shaped.enough_slots in (
      all_others ask c.loop-distance.seat.me.0 c.load-slot.new.seat.me.0 (omega arith) last.more (λ e h. inv.before e (omega arith)),
      learns_then c.args.seat.now.me.0 c.loop-distance.seat.me.0 c.load-slot.new.seat.me.0 inv.learns last,
    )

pub loop-distance-preserved : goal.loop-distance-preserved
loop-distance-preserved g c =
    let inv = c.loop-distance.invariant in
    let words = g.P.Packed.words c.args.rec.now in
    let ask = ask_for g.S.RecSort (plan_of c.args.self.now) words in
    let v = c.loop-distance.seat.me.0 in
    let w = c.visit.new.seat.me.0 in
    let distance = c.loop-distance.distance in
    let visits = c.in_default.ensures.visits in
    let at : (c.args.home + distance) % c.args.self.now.plan.shape.slots ≡ place_at ask distance = λ i. (c.requires.home.0 i + distance) % (c.args.self.now.plan_is i).shape.slots in
    record {
      at = c.visit.ensures.seat.0;
      hand = c.visit.ensures.seat.1 ∙ inv.hand;
      before = passes_more ask v w distance visits.1.more inv.before (subst (λ p. HoldsOther w p words) at visits.0);
      learns = learns_then c.args.seat.now.me.0 v w inv.learns visits.1;
    }
