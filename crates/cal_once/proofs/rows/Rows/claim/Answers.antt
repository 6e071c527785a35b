use Rattle.std.proofs.Common.{◌≡◌, ◌≢◌, ◌+◌, length, ap, ◌∙◌, subst, arith}
use Rattle.cal_once.specs.Layout.{IsShape, arena_start, slot_for}
use Rattle.cal_once.specs.Puts.{ask_for}
use Rattle.cal_once.specs.Steps.{WasEmpty}
use Rattle.cal_once.specs.Seats.{plan_of}
use Rattle.cal_once.specs.Views.{Saw, Learns, offered}
use Rattle.cal_once.proofs.Answering.{may_offer, missed, published_here, reached_later, start_small, visits_then}
use Rattle.cal_once.proofs.rows.Rows.claim.Goals as goal
use Rattle.cal_once.proofs.rows.Rows.claim.Goals.{After-offer-found}

pub offer-found-requires-clause-may : goal.offer-found-requires-clause-may
offer-found-requires-clause-may g c = may_offer g.S.RecSort (plan_of c.args.self.now) c.args.seat.now.me.0 c.draft.new.seat.me.0 (g.P.Packed.words c.args.rec.now) c.args.at.place c.args.at.distance c.draft.ensures.drafted c.requires.may c.requires.at

-- what the exchange leaves
left : (g : _) (c : After-offer-found g) → c.offer-found.new.seat.me.0 ≡ offered c.args.at.place (slot_for (length (g.P.Packed.words c.args.rec.now)) (arena_start (plan_of c.args.self.now).shape c.args.number + c.args.used)) c.offer-found.result (record c.args.seat.now.me.0 { draft = g.P.Packed.words c.args.rec.now })
left g c = ap (λ m. m.0) c.offer-found.ensures.offered.view ∙ (λ i. offered c.args.at.place (slot_for (c.len.ensures i) (arena_start (c.args.self.now.plan_is i).shape c.args.number + c.args.used)) c.offer-found.result (c.draft.ensures.drafted i))

pub returns-then-found-eq0-clause-visits : goal.returns-then-found-eq0-clause-visits
returns-then-found-eq0-clause-visits g c =
    let plan = plan_of c.args.self.now in
    let shape = subst (λ p. IsShape p.shape) c.args.self.now.plan_is c.args.self.now.shaped in
    let is_arena = c.requires.sound.own_arena in
    let room = c.requires.room in
    published_here (ask_for g.S.RecSort plan (g.P.Packed.words c.args.rec.now)) c.args.seat.now.me.0 c.offer-found.new.seat.me.0 c.args.at.place c.args.at.distance (arena_start plan.shape c.args.number + c.args.used) c.offer-found.result
    (left g (goal.at.returns-then-found-eq0-clause-visits g c).After-offer-found) c.if-found-eq0.true (start_small plan.shape c.args.number c.args.used shape (omega arith) (omega arith)) c.requires.at
    (let e = subst (λ v. WasEmpty plan v c.args.at.place) c.draft.ensures.drafted (c.offer-found.ensures.offered.empty plan c.draft.ensures.seat.0.plan c.if-found-eq0.true) in record { unknown = e.unknown; no_parent = e.no_parent; unlisted = e.unlisted })

-- the slot was filled by another seat
learned : (g : _) (c : After-offer-found g) → c.offer-found.result ≢ 0 → Learns c.args.seat.now.me.0 c.offer-found.new.seat.me.0 × Saw c.offer-found.new.seat.me.0.seen (c.args.at.place + 1) c.offer-found.result
learned g c ne = missed (ask_for g.S.RecSort (plan_of c.args.self.now) (g.P.Packed.words c.args.rec.now)) c.args.seat.now.me.0 c.offer-found.new.seat.me.0 c.args.at.place (slot_for (length (g.P.Packed.words c.args.rec.now)) (arena_start (plan_of c.args.self.now).shape c.args.number + c.args.used)) c.offer-found.result (left g c) ne

pub meet-requires-clause-at : goal.meet-requires-clause-at
meet-requires-clause-at g c =
    let l = learned g (goal.at.meet-requires-clause-at g c).After-offer-found c.if-found-eq0.false in
    reached_later (ask_for g.S.RecSort (plan_of c.args.self.now) (g.P.Packed.words c.args.rec.now)) c.args.seat.now.me.0 c.offer-found.new.seat.me.0 c.args.at.place c.args.at.distance l.0.more c.requires.at

pub returns-clause-visits : goal.returns-clause-visits
returns-clause-visits g c =
    let l = learned g (goal.at.returns-clause-visits g c).After-offer-found c.if-found-eq0.false in
    visits_then (ask_for g.S.RecSort (plan_of c.args.self.now) (g.P.Packed.words c.args.rec.now)) c.args.seat.now.me.0 c.offer-found.new.seat.me.0 c.meet.new.seat.me.0 c.args.at.place l.0 c.meet.result c.meet.ensures.visits
