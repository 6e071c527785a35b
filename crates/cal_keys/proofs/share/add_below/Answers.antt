use Rattle.std.proofs.Common.{◌≡◌, ◌<◌, ◌++◌, arith, ◌∙◌, ap, filter, get_or, length}
use Rattle.std.specs.Prelude.{slice_range}
use Rattle.cal_keys.specs.Shares.{is_below}
use Rattle.cal_keys.proofs.ShareLemmas.{added_next, added_not, lt_not, lt_so, range_end, read_front}
use Rattle.cal_keys.proofs.share.add_below.Goals as goal
use Rattle.cal_keys.proofs.share.add_below.Goals.{then-share-place+in_ok-push, else-share-place}

pub loop-at-preserved : goal.loop-at-preserved
loop-at-preserved c =
    let old = c.args.list.now.items in
    let share = c.index-share.result.now in
    let so_far = filter (is_below c.args.place) (slice_range old c.args.from c.loop-at.at) in
    let short : c.loop-at.at < length old = omega (arith, c.loop-at-test.true, c.requires.within) in
    let read : share ≡ get_or old c.loop-at.at share = c.index-share.ensures ∙ read_front old c.loop-at.list.items so_far c.loop-at.at share c.loop-at.invariant.added short in
    elim c.if-share-place.branch [
      | then-share-place+in_ok-push w ↦ record {
        added = (λ i. (w.list-is i).items)
            ∙ added_next (is_below c.args.place) old c.loop-at.list.items w.push.new.self.items c.args.from c.loop-at.at share c.loop-at.auto.at short read
            (lt_so c.index-share.result.now.place c.args.place w.if-share-place.true) c.loop-at.invariant.added w.in_ok-push.ensures.items;
      }
      | else-share-place w ↦ record {
        added = (λ i. (w.list-is i).items)
            ∙ added_not (is_below c.args.place) old c.loop-at.list.items c.args.from c.loop-at.at share c.loop-at.auto.at short read
            (lt_not c.index-share.result.now.place c.args.place w.if-share-place.false) c.loop-at.invariant.added;
      }
    ]

pub returns-clause-added : goal.returns-clause-added
returns-clause-added c =
    c.loop-at.invariant.added
    ∙ ap (λ ys. c.args.list.now.items ++ filter (is_below c.args.place) ys)
    (range_end c.args.list.now.items c.args.from c.loop-at.at c.args.to (omega (arith, c.requires.rise, c.loop-at-test.false, c.loop-at.auto.at-end)))
