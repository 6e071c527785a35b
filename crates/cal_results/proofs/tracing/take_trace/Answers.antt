use Rattle.std.proofs.Common.{◌<◌, [], length, get_or, refl, sym, ◌∙◌}
use Rattle.std.proofs.Common.{subst, append-nil, arith}
use Rattle.std.proofs.lemmas.List.{take_all}
use Rattle.cal_context.proofs.CallerLemmas.{Grows-refl, Grows-trans}
use Rattle.cal_context.proofs.ListLemmas.{IsFront-trans}
use Rattle.cal_context.specs.Snapshots.{meaning}
use Rattle.cal_context.specs.Taking.{TakesMore}
use Rattle.cal_once.proofs.Learning.{learns_nothing, learns_then}
use Rattle.cal_once.specs.Seats.{view}
use Rattle.cal_results.proofs.Handing.{hands_on, means_long, record_at, taken_more}
use Rattle.cal_value.specs.declared.record.Rec.{Rec}
use Rattle.cal_results.proofs.tracing.take_trace.Goals as goal

pub loop-place-init : goal.loop-place-init
loop-place-init g c = record {
  seat = c.requires.seat;
  learns = learns_nothing (view c.args.seat.now);
  grows = Grows-refl c.args.context.now;
  attributes = refl;
  numbered = c.requires.numbered;
  keeps = λ node n is. is;
  taken = λ recs m rs had. subst (g.T.Taker.has_taken c.args.taker.now c.args.context.now)
      (sym (append-nil rs)) had;
  about = refl;
}

pub place_snap-requires-clause-named : goal.place_snap-requires-clause-named
place_snap-requires-clause-named g c = IsFront-trans c.args.script.now.attributes
    c.args.context.now.attributes c.loop-place.context.attributes c.requires.named
    c.loop-place.invariant.grows.attributes

pub place_snap-requires-clause-means : goal.place_snap-requires-clause-means
place_snap-requires-clause-means g c =
    let inv = c.loop-place.invariant in
    let none : Rec = record { paths = []; imms = [] } in
    let test = c.loop-place-test.true in
    let end = c.len-place-end.ensures in
    let recs = c.requires.means.0 in (
      get_or recs c.loop-place.place none,
      record_at c.args.script.now c.args.tree.now c.args.context.now c.loop-place.context
          inv.grows.attributes c.args.seat.now c.loop-place.seat inv.learns.more c.args.trace.now
          recs c.loop-place.place c.requires.means.1 (omega arith)
          (record {
            nodes = c.snap-shown.result.nodes.now;
            entries =
                c.snap-shown.result.entries;
          }) c.snap-shown.ensures none,
    )

pub loop-place-preserved : goal.loop-place-preserved
loop-place-preserved g c =
    let inv = c.loop-place.invariant in
    let done = c.place_snap.ensures in
    let old = c.loop-place.context in
    let new = c.place_snap.new.context in
    let none : Rec = record { paths = []; imms = [] } in
    let test = c.loop-place-test.true in
    let end = c.len-place-end.ensures in
    let snaps = c.args.trace.now in
    let i = c.loop-place.place in
    let less : i < length snaps = omega arith in
    let has = g.T.Taker.has_taken in
    record {
      seat = done.seat;
      learns = learns_then (view c.args.seat.now) (view c.loop-place.seat)
          (view c.place_snap.new.seat) inv.learns done.learns;
      grows = Grows-trans c.args.context.now old new inv.grows done.grows;
      attributes = done.attributes ∙ inv.attributes;
      numbered = done.numbered;
      keeps = λ node n is. done.keeps node n (inv.keeps node n is);
      taken = λ recs m.
          let long = means_long c.args.context.now c.args.script.now c.args.tree.now
          c.args.seat.now snaps recs m in
          let rec : Rec = get_or recs i none in
          let one = record_at c.args.script.now c.args.tree.now c.args.context.now old
          inv.grows.attributes c.args.seat.now c.loop-place.seat inv.learns.more snaps recs i m less
          (record {
            nodes = c.snap-shown.result.nodes.now;
            entries =
                c.snap-shown.result.entries;
          }) c.snap-shown.ensures none in
          let next = hands_on (has c.loop-place.taker old) (has c.loop-place.taker new)
          (has c.take.new.self new) (meaning new c.place_snap.new.snapshot) rec
          (c.in_ok-place_snap.ensures.means rec one)
          (λ rs had. g.met.T.Taker.stays c.loop-place.taker old new rs had done.grows)
          c.in_ok-take.ensures.taken in
          taken_more (has c.args.taker.now c.args.context.now) (has c.loop-place.taker old)
          (has c.take.new.self new) recs i none (omega (arith, long, less)) (inv.taken recs m) next;
      about = c.in_ok-take.ensures.about ∙ c.loop-place.invariant.about;
    }

pub returns-clause-taken : goal.returns-clause-taken
returns-clause-taken g c recs m =
    let inv = c.loop-place.invariant in
    let test = c.loop-place-test.false in
    let end = c.len-place-end.ensures in
    let long = means_long c.args.context.now c.args.script.now c.args.tree.now c.args.seat.now
    c.args.trace.now recs m in
    subst (TakesMore (g.T.Taker.has_taken c.args.taker.now c.args.context.now)
    (g.T.Taker.has_taken c.loop-place.taker c.loop-place.context))
    (take_all c.loop-place.place recs (omega (arith, long))) (inv.taken recs m)

pub returns-clause-about : goal.returns-clause-about
returns-clause-about g c = c.loop-place.invariant.about
