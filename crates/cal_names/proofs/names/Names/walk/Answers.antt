use Rattle.std.proofs.Common.{◌≡◌, ◌%◌, ℕ, ◌+◌, ◌<◌, sym, ap, subst, inl, inr, arith}
use Rattle.cal_words.specs.declared.shape.Shape.{Shape}
use Rattle.cal_once.specs.Seats.{view}
use Rattle.cal_once.specs.Steps.{WasEmpty}
use Rattle.cal_once.specs.Views.{KnowsMore}
use Rattle.cal_once.proofs.Learning.{learns_then}
use Rattle.cal_names.specs.Answers.{with_content}
use Rattle.cal_names.specs.Declarations.{Declaration, name_words}
use Rattle.cal_names.specs.Kept.{HasOtherName, name_place, plan_of}
use Rattle.cal_names.proofs.Reading.{passes_later, small_props}
use Rattle.cal_names.proofs.Walking.{is_slot, notes_then, passes_one_more, was_empty_before}
use Rattle.cal_names.proofs.names.Names.walk.Goals as goal
use Rattle.cal_names.proofs.names.Names.walk.Goals.{After-look}

-- the place that was looked at is the one at this distance from the name's home
at_name : (c : After-look) → (c.args.home + c.loop-distance.distance) % c.args.self.now.shape.slots ≡ name_place (plan_of c.args.self.now) c.args.rec.now.name.now c.loop-distance.distance
at_name c = λ i. (c.requires.home i + c.loop-distance.distance) % (c.args.self.now.shape_is i).slots

near : (c : After-look) → c.loop-distance.distance < (plan_of c.args.self.now).shape.slots
near c = subst (λ (s : Shape). c.loop-distance.distance < s.slots) c.args.self.now.shape_is c.loop-distance-test.true

pub returns-then-not-look-clause-looks : goal.returns-then-not-look-clause-looks
returns-then-not-look-clause-looks c =
    let plan = plan_of c.args.self.now in
    let place : ℕ = (c.args.home + c.loop-distance.distance) % c.args.self.now.shape.slots in
    let first = view c.args.seat.now in
    let v = view c.loop-distance.seat in
    let learns = c.loop-distance.invariant.learns in
    let sees = c.if-not-look.ensures.sees in
    inr (place, was_empty_before plan first v place learns sees.0, notes_then plan first v (view c.look.new.seat) place learns sees.1)

pub returns-then-not-look-clause-meets : goal.returns-then-not-look-clause-meets
returns-then-not-look-clause-meets c =
    let plan = plan_of c.args.self.now in
    let s = (goal.at.returns-then-not-look-clause-meets c).After-look in
    let place : ℕ = (c.args.home + c.loop-distance.distance) % c.args.self.now.shape.slots in
    let first = view c.args.seat.now in
    let v = view c.loop-distance.seat in
    let sees = c.if-not-look.ensures.sees in
    let empty = was_empty_before plan first v place c.loop-distance.invariant.learns sees.0 in (
      passes_later plan v (view c.look.new.seat) c.args.rec.now.name.now c.loop-distance.distance sees.1.more c.loop-distance.invariant.passed,
      inr (near s, subst (λ (p : ℕ). WasEmpty plan first p) (at_name s) empty),
    )

pub returns-in-Some-clause-meets : goal.returns-in-Some-clause-meets
returns-in-Some-clause-meets c =
    let plan = plan_of c.args.self.now in
    let s = (goal.at.returns-in-Some-clause-meets c).After-look in
    let place : ℕ = (c.args.home + c.loop-distance.distance) % c.args.self.now.shape.slots in
    let d : Declaration = with_content c.args.rec.now.name.now c.in-Some.content in
    let v = view c.loop-distance.seat in
    let w = view c.content_of.new.seat in
    let more : KnowsMore v w = λ i x saw. c.content_of.ensures.learns.more i x (c.if-not-look.ensures.sees.1.more i x saw) in
    let within : place < plan.shape.slots = subst (λ (p : ℕ). p < plan.shape.slots) (sym (at_name s)) (is_slot plan c.args.rec.now.name.now c.loop-distance.distance (near s)) in
    let lawful = c.content_of.ensures.seat.sound.lawful place (name_words d) within c.in-Some.ensures.here in
    record {
      is_declaration = record { text = c.requires.text; long = c.requires.long; props = small_props d lawful.is_record };
      distance = c.loop-distance.distance;
      near = near s;
      at = at_name s;
      before = passes_later plan v w c.args.rec.now.name.now c.loop-distance.distance more c.loop-distance.invariant.passed;
      holds = c.in-Some.ensures.here;
    }

pub loop-distance-preserved : goal.loop-distance-preserved
loop-distance-preserved c =
    let plan = plan_of c.args.self.now in
    let s = (goal.at.loop-distance-preserved c).After-look in
    let first = view c.args.seat.now in
    let v = view c.loop-distance.seat in
    let looked = view c.look.new.seat in
    let w = view c.content_of.new.seat in
    let sees = c.if-not-look.ensures.sees in
    let learns = learns_then v looked w sees.1 c.content_of.ensures.learns in
    record {
      seat = c.content_of.ensures.seat;
      learns = learns_then first v w c.loop-distance.invariant.learns learns;
      passed = passes_one_more plan v w c.args.rec.now.name.now c.loop-distance.distance learns.more c.loop-distance.invariant.passed
          (subst (λ (p : ℕ). HasOtherName w c.args.rec.now.name.now p) (at_name s) c.in_default.ensures.other);
    }

pub returns-clause-meets : goal.returns-clause-meets
returns-clause-meets c =
    let done = c.loop-distance-test.false in (
      λ e l. c.loop-distance.invariant.passed e (omega arith),
      inl (ap (λ (s : Shape). s.slots) c.args.self.now.shape_is),
    )
