use Rattle.std.proofs.Common.{◌+◌, ℕ, true, false, length, ap, sym, subst}
use Rattle.atomic_table.specs.declared.shared.Seat.{Seat}
use Rattle.cal_once.specs.declared.view.View.{View}
use Rattle.cal_once.specs.Puts.{HasRoom, ask_for}
use Rattle.cal_once.specs.Seats.{plan_of}
use Rattle.cal_once.specs.Views.{Saw, Learns}
use Rattle.cal_once.proofs.Learning.{learns_empty, learns_peek, learns_slot}
use Rattle.cal_once.proofs.Answering.{may_later, reached_later, visits_then}
use Rattle.cal_once.proofs.rows.Rows.visit.Goals as goal
use Rattle.cal_once.proofs.rows.Rows.visit.Goals.{Joined-room, in-Full+else-slot-eq0, in-Free+else-slot-eq0-2}

pub returns-then-slot-eq0-clause-visits : goal.returns-then-slot-eq0-clause-visits
returns-then-slot-eq0-clause-visits g c =
    let plan = plan_of c.args.self.now in
    let ask = ask_for g.S.RecSort plan (g.P.Packed.words c.args.rec.now) in
    let seen = c.load-slot.ensures.looked in
    let learns = learns_empty c.args.at.place c.load-slot.result c.args.seat.now.me.0 c.load-slot.new.seat.me.0 (ap (λ m. m.0) seen.view) c.if-slot-eq0.true in
    let room = subst (λ r. HasRoom plan c.args.seat.now.me.0 (length (g.P.Packed.words c.args.rec.now)) r) c.in-Full.is c.requires.room in
    record {
      used_is = room.0;
      need_is = room.1;
      too_long = room.2;
      place = c.args.at.place;
      distance = c.args.at.distance;
      reached = reached_later ask c.args.seat.now.me.0 c.load-slot.new.seat.me.0 c.args.at.place c.args.at.distance learns.more c.requires.at;
      empty = seen.empty plan c.requires.seat.plan c.if-slot-eq0.true;
      learns = learns;
    }

pub claim-requires-clause-may : goal.claim-requires-clause-may
claim-requires-clause-may g c =
    let learns = learns_peek c.args.at.place c.load-slot-in-Free.result c.args.seat.now.me.0 c.load-slot-in-Free.new.seat.me.0 (ap (λ m. m.0) c.load-slot-in-Free.ensures.looked.view) in
    may_later g.S.RecSort (ask_for g.S.RecSort (plan_of c.args.self.now) (g.P.Packed.words c.args.rec.now)) c.args.seat.now.me.0 c.load-slot-in-Free.new.seat.me.0 learns c.requires.may

-- the slot was filled
learned : (g : _) (c : Joined-room g) → Learns c.args.seat.now.me.0 c.match-room.seat.me.0 × Saw c.match-room.seat.me.0.seen (c.args.at.place + 1) c.match-room.slot
learned g c =
    let Met : Seat ℕ (View g.row.S.Denot) × ℕ → Type 0 = λ z. Learns c.args.seat.now.me.0 z.0.me.0 × Saw z.0.me.0.seen (c.args.at.place + 1) z.1 in
    elim c.match-room.branch [
      | in-Full+else-slot-eq0 w ↦ subst Met (λ i. (sym w.seat-is i, sym w.slot-is i)) (learns_slot true c.args.at.place w.load-slot.result c.args.seat.now.me.0 w.load-slot.new.seat.me.0 (ap (λ m. m.0) w.load-slot.ensures.looked.view) w.if-slot-eq0.false)
      | in-Free+else-slot-eq0-2 w ↦ subst Met (λ i. (sym w.seat-is i, sym w.slot-is i)) (learns_slot false c.args.at.place w.load-slot-in-Free.result c.args.seat.now.me.0 w.load-slot-in-Free.new.seat.me.0 (ap (λ m. m.0) w.load-slot-in-Free.ensures.looked.view) w.if-slot-eq0-2.false)
    ]

pub meet-requires-clause-at : goal.meet-requires-clause-at
meet-requires-clause-at g c =
    let l = learned g (goal.at.meet-requires-clause-at g c).Joined-room in
    reached_later (ask_for g.S.RecSort (plan_of c.args.self.now) (g.P.Packed.words c.args.rec.now)) c.args.seat.now.me.0 c.match-room.seat.me.0 c.args.at.place c.args.at.distance l.0.more c.requires.at

pub returns-clause-visits : goal.returns-clause-visits
returns-clause-visits g c =
    let l = learned g (goal.at.returns-clause-visits g c).Joined-room in
    visits_then (ask_for g.S.RecSort (plan_of c.args.self.now) (g.P.Packed.words c.args.rec.now)) c.args.seat.now.me.0 c.match-room.seat.me.0 c.meet.new.seat.me.0 c.args.at.place l.0 c.meet.result c.meet.ensures.visits
