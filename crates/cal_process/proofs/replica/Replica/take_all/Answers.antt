use Rattle.std.proofs.Common.{◌≡◌, ◌+◌, arith, refl, ◌∙◌}
use Rattle.cal_once.specs.Seats.{view}
use Rattle.cal_plog.specs.Seats.{slots_of}
use Rattle.cal_process.proofs.TakingLemmas.{count-more, count-same, may-take-more, seen-within, takes-end}
use Rattle.cal_process.proofs.TakingLemmas.{takes-looks, takes-none, takes-nothing, takes-one}
use Rattle.cal_process.proofs.TakingLemmas.{takes-then}
use Rattle.cal_process.proofs.replica.Replica.take_all.Goals as goal

pub loop-init : goal.loop-init
loop-init c = record {
  some = c.requires.taken;
  more = λ h t. takes-nothing c.args.common.now c.args.seat.now c.args.self.now h t;
  looks = refl;
  later = (refl, refl, refl, (λ i x s. s));
}

pub take_next-requires-clause-taken : goal.take_next-requires-clause-taken
take_next-requires-clause-taken c = c.loop.invariant.some

pub loop-smaller : goal.loop-smaller
loop-smaller c =
    let common = c.args.common.now in
    let b = c.in_ok-take_next.field-0 in
    let n = c.take_next.new.self.seen in
    let count : n ≡ c.loop.self.seen + 1 =
    count-more b n c.loop.self.seen c.if-branch.true c.in_ok-take_next.ensures.count in
    let some = c.loop.invariant.some in
    let o = takes-one common c.loop.seat c.take_next.new.seat c.loop.self
    c.take_next.new.self b c.if-branch.true c.in_ok-take_next.ensures.takes some.0 some.1.taken in
    let long = o.taken.long in
    let within = seen-within (slots_of common.log) (view c.take_next.new.self.log) _
    o.taken.read in
    omega (arith, count, long, within)

pub loop-preserved : goal.loop-preserved
loop-preserved c =
    let common = c.args.common.now in
    let b = c.in_ok-take_next.field-0 in
    let old = c.loop.invariant in
    let one = takes-one common c.loop.seat c.take_next.new.seat c.loop.self
    c.take_next.new.self b c.if-branch.true c.in_ok-take_next.ensures.takes in
    let a = old.later in
    let z = c.in_ok-take_next.ensures.later in
    record {
      some = (
        _,
        may-take-more common c.loop.seat c.take_next.new.seat c.loop.self
            c.take_next.new.self old.some.0 old.some.1 (one old.some.0 old.some.1.taken),
      );
      more = λ h t. takes-then common c.args.seat.now c.loop.seat c.take_next.new.seat
          c.args.self.now c.loop.self c.take_next.new.self h (old.more h t) one;
      looks = takes-looks common c.loop.seat c.take_next.new.seat c.loop.self
          c.take_next.new.self old.some.0 (one old.some.0 old.some.1.taken) ∙ old.looks;
      later = (z.0 ∙ a.0, z.1 ∙ a.1, z.2 ∙ a.2, (λ i x s. z.3 i x (a.3 i x s)));
    }

pub returns-clause-takes : goal.returns-clause-takes
returns-clause-takes c h t =
    let common = c.args.common.now in
    let b = c.in_ok-take_next.field-0 in
    let n = c.take_next.new.self.seen in
    takes-end common c.args.seat.now c.loop.seat c.take_next.new.seat c.args.self.now
    c.loop.self c.take_next.new.self h c.loop.invariant.looks (c.loop.invariant.more h t)
    (takes-none common c.loop.seat c.take_next.new.seat c.loop.self
    c.take_next.new.self b c.if-branch.false c.in_ok-take_next.ensures.takes)
    (count-same b n c.loop.self.seen c.if-branch.false c.in_ok-take_next.ensures.count)

pub returns-clause-later : goal.returns-clause-later
returns-clause-later c =
    let a = c.loop.invariant.later in
    let z = c.in_ok-take_next.ensures.later in
    (z.0 ∙ a.0, z.1 ∙ a.1, z.2 ∙ a.2, (λ i x s. z.3 i x (a.3 i x s)))
