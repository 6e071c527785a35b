use Rattle.std.proofs.Common.{◌≡◌, ◌+◌, ◌<◌, ◌≤◌, Bool, true, false, ℕ, List, length, sym, ap, ◌∙◌, subst, inl, inr, arith}
use Rattle.cal_words.specs.declared.op.OpRec.{OpRec}
use Rattle.cal_words.specs.declared.sort.OpSort.{OpSort}
use Rattle.cal_words.specs.Records.{IsOpRec}
use Rattle.cal_words.specs.Words.{op_words}
use Rattle.cal_once.specs.Layout.{times}
use Rattle.cal_once.specs.Seats.{view}
use Rattle.cal_once.proofs.Learning.{learns_then}
use Rattle.cal_plog.specs.History.{HasOp}
use Rattle.cal_plog.specs.Seats.{plan_of, slots_of}
use Rattle.cal_plog.proofs.Reading.{op_there, same_op, is_among, is_once, whole_of}
use Rattle.cal_plog.proofs.log.PLog.next.Goals as goal
use Rattle.cal_plog.proofs.log.PLog.next.Goals.{After-look, After-front}

-- the place is one of the slots
is_place : (c : After-look) → c.args.k < slots_of c.args.self.now
is_place c = let slots = c.args.self.now.slots_is in let other = c.if-k-self.false in let place = c.requires.place in omega arith

pub front-requires-clause-long : goal.front-requires-clause-long
front-requires-clause-long c slot known =
    let h = is_place (goal.at.front-requires-clause-long c).After-look in
    let size = (op_there (plan_of c.args.self.now) (view c.look.new.seat) c.look.ensures.sound c.args.k slot h known).5 in
    omega arith

-- the operation that was read
was_read : (c : After-front) → (op : OpRec) × (c.front.new.words ≡ op_words op) × HasOp (slots_of c.args.self.now) (view c.front.new.seat) c.args.k op × IsOpRec op
was_read c =
    let slots = c.args.self.now.slots_is in
    let other = c.if-k-self.false in
    let place = c.requires.place in
    whole_of (plan_of c.args.self.now) (view c.front.new.seat) c.front.ensures.sound c.args.k c.front.new.words (omega arith) c.front.ensures.same c.front.ensures.front

pub read_op-requires : goal.read_op-requires
read_op-requires c = let r = was_read (goal.at.read_op-requires c).After-front in (r.0, r.3, r.1)

pub returns-clause-answer : goal.returns-clause-answer
returns-clause-answer c =
    let plan = plan_of c.args.self.now in
    let v = view c.args.seat.now in
    let w = view c.front.new.seat in
    let op = c.read_op.result in
    let r = was_read (goal.at.returns-clause-answer c).After-front in
    let same : r.0 ≡ op = same_op r.0 op (sym r.1 ∙ c.read_op.ensures) in
    let has : HasOp plan.shape.slots w c.args.k op = subst (λ (o : OpRec). HasOp plan.shape.slots w c.args.k o) same r.2 in
    let learns = learns_then v (view c.look.new.seat) w c.if-not-look.ensures.sees.1 c.front.ensures.learns in
    record {
      has_op = has;
      among = is_among plan w c.front.ensures.sound c.args.k op has;
      own = λ mine. ap (λ x. times c.args.k x.published) (sym learns.same) ∙ is_once plan w c.front.ensures.sound c.args.k op has (ap (λ x. x.number) learns.same ∙ mine);
      learns = learns;
    }
