use Rattle.std.proofs.Common.{get_or}
use Rattle.std.proofs.lemmas.List.{take_all, take_more}
use Rattle.std.proofs.lemmas.Result.{on_ok_weaker}
use Rattle.cal_context.specs.Snapshots.{meaning}
use Rattle.cal_rowset.specs.Filling.{names, used}
use Rattle.cal_tabfmt.proofs.PlaceLemmas.{line_written, parts_at-push}
use Rattle.cal_tabfmt.proofs.writer.append_line.Goals as goal

pub loop-place-preserved : goal.loop-place-preserved
loop-place-preserved c =
    let row = meaning c.args.context.now c.args.snapshot.now in
    let places = used c.args.trail.now in
    λ holds.
    rw (take_more places c.loop-place.place-index 0 (rw c.used-place-items.ensures at c.loop-place-test.true), parts_at-push row (names c.args.trail.now) _ (get_or places c.loop-place.place-index 0))
    (rw c.used-place-items.ensures at (c.in_ok-is_first.ensures c.args.out.now _ holds (rw c.used-place-items.ensures (holds.within c.loop-place.place-index 0 (rw c.used-place-items.ensures at c.loop-place-test.true))) (c.loop-place.invariant holds)))

pub returns : goal.returns
returns c =
    let row = meaning c.args.context.now c.args.snapshot.now in
    let places = used c.args.trail.now in
    on_ok_weaker c.push_str.result
    (λ pushed holds.
    let has = rw (take_all c.loop-place.place-index places (rw c.used-place-items.ensures at c.loop-place-test.false)) at (c.loop-place.invariant holds) in
    line_written row (names c.args.trail.now) places c.args.out.now c.loop-place.out _ _ holds.used_names has pushed)
    c.push_str.ensures.ok
