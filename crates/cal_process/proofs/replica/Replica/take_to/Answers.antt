use Rattle.std.proofs.Common.{◌≡◌, ◌+◌, true, arith, ap, ◌∙◌}
use Rattle.cal_once.specs.Seats.{view}
use Rattle.cal_plog.proofs.Reading.{knows_below_later}
use Rattle.cal_plog.specs.Seats.{slots_of}
use Rattle.cal_process.proofs.TakingLemmas.{count-more, may-take-more, must-take, takes-looks, takes-one}
use Rattle.cal_process.proofs.TakingLemmas.{takes-then}
use Rattle.cal_process.proofs.replica.Replica.take_to.Goals as goal
use Rattle.cal_process.proofs.replica.Replica.take_to.Goals.{In_ok-_more}

is-more : (c : In_ok-_more) → c.in_ok-_more._more ≡ true
is-more c =
    let old = c.loop-next.invariant in
    let start = c.requires.taken in
    let m = old.more start.0 start.1.taken in
    let at = old.seen in
    let less = c.loop-next-test.true in
    must-take c.args.common.now c.loop-next.seat c.take_next.new.seat c.loop-next.self
    c.take_next.new.self c.in_ok-_more._more c.args.place (omega (arith, at, less))
    c.requires.within
    (knows_below_later (slots_of c.args.common.now.log) (view c.args.self.now.log)
    (view c.loop-next.self.log) c.args.place m.learns.more c.requires.known)
    old.some.0 old.some.1.taken c.in_ok-_more.ensures.takes

pub loop-next-preserved : goal.loop-next-preserved
loop-next-preserved c =
    let common = c.args.common.now in
    let old = c.loop-next.invariant in
    let b = c.in_ok-_more._more in
    let n = c.take_next.new.self.seen in
    let count = count-more b n c.loop-next.self.seen (is-more c) c.in_ok-_more.ensures.count in
    let one = takes-one common c.loop-next.seat c.take_next.new.seat c.loop-next.self
    c.take_next.new.self b (is-more c) c.in_ok-_more.ensures.takes in
    let a = old.later in
    let z = c.in_ok-_more.ensures.later in
    record {
      some = (
        _,
        may-take-more common c.loop-next.seat c.take_next.new.seat c.loop-next.self
            c.take_next.new.self old.some.0 old.some.1 (one old.some.0 old.some.1.taken),
      );
      more = λ h t. takes-then common c.args.seat.now c.loop-next.seat c.take_next.new.seat
          c.args.self.now c.loop-next.self c.take_next.new.self h (old.more h t) one;
      seen = count ∙ ap (λ k. k + 1) old.seen;
      looks = takes-looks common c.loop-next.seat c.take_next.new.seat c.loop-next.self
          c.take_next.new.self old.some.0 (one old.some.0 old.some.1.taken) ∙ old.looks;
      later = (z.0 ∙ a.0, z.1 ∙ a.1, z.2 ∙ a.2, (λ i x s. z.3 i x (a.3 i x s)));
    }
