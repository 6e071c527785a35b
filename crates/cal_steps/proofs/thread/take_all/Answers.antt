use Rattle.std.proofs.Common.{◌≡◌, ◌+◌, ◌<◌, List, length, map, ap, subst, sym, ◌∙◌, arith}
use Rattle.std.specs.Prelude.{None, zip}
use Rattle.std.proofs.lemmas.List.{length-set}
use Rattle.cal_events.specs.Worlds.{Held, nothing_held}
use Rattle.cal_steps.proofs.TakingLemmas.{changed-next, changed_to, some-item}
use Rattle.cal_steps.proofs.thread.take_all.Goals as goal
use Rattle.cal_steps.specs.Sights.{held_with, shown_at}

pub loop-place-preserved : goal.loop-place-preserved
loop-place-preserved c =
    let cs = c.args.script.now.channels in
    let hs = c.loop-place.channels.items in
    let f = held_with c.args.script.now c.args.line
    (shown_at c.args.board.now c.args.process.now c.args.readings.now c.args.reading) in
    let test = c.loop-place-test.true in
    let many = c.len-place-end.ensures in
    let first = c.requires.long in
    let long = c.loop-place.invariant.long in
    let inside : c.loop-place.place < length cs = omega (arith, test, many, first) in
    let below : c.loop-place.place < length hs = omega (arith, inside, long) in
    let channel = some-item cs c.loop-place.place inside in
    let now = c.in_ok-take_at.ensures channel (nothing_held None) in
    record {
      long = ap length now ∙ length-set hs c.loop-place.place _ ∙ long;
      taken = subst (λ (ks : List Held). changed_to f cs (c.loop-place.place + 1) ks
          ≡ map f (zip cs c.args.channels.now.items)) (sym now)
          (changed-next f cs c.loop-place.place hs (map f (zip cs c.args.channels.now.items))
          channel (nothing_held None) below inside c.loop-place.invariant.taken);
    }
