use Rattle.std.proofs.Common.{◌≡◌, ℕ, ◌+◌, List, ◌++◌, length, take, length-take, length-append, append_assoc, subst, arith, rules}
use Rattle.std.proofs.lemmas.Result.{err_from_is_err_and}
use Rattle.cal_base.proofs.Taking.{StopsAt-then, Takes-append, TakesUpTo-read}
use Rattle.cal_query.proofs.pieces.feed_through.Goals as goal

-- what was taken before this read, and why it gave no more
pub returns-in_err-count-clause-refused : goal.returns-in_err-count-clause-refused
returns-in_err-count-clause-refused g c =
    let feeds = c.loop-count.invariant.feeds in
    let p = err_from_is_err_and c.from_residual.result c.from_residual.ensures.1 in
    let stops = rw (← feeds.counted) at c.in_err-count.ensures.refused in
    rw (p.1, p.2) (StopsAt-then _ c.args.limit _ _ _ _ _ _ feeds.bytes feeds.taken
    (omega (arith, feeds.counted, c.loop-count.invariant.within)) c.loop-count.invariant.later
    stops)

-- what was taken before this read, and what this one took
pub returns-in_default-clause-refused : goal.returns-in_default-clause-refused
returns-in_default-clause-refused g c =
    let feeds = c.loop-count.invariant.feeds in
    let now = length-take c.in_ok-count.count c.read_within.new.buffer in
    TakesUpTo-read _ _ _ _ _ _ feeds.taken c.in_ok-count.ensures.taken
    (omega (arith, now, feeds.counted, c.in_ok-count.ensures.within, c.loop-count.invariant.within))

pub loop-count-preserved : goal.loop-count-preserved
loop-count-preserved g c =
    let feeds = c.loop-count.invariant.feeds in
    let piece = take c.in_ok-count.count c.read_within.new.buffer in
    let now = length-take c.in_ok-count.count c.read_within.new.buffer in
    let counted : length (feeds.bytes ++ piece) ≡ c.loop-count.total + c.in_ok-count.count =
    omega (arith, now, feeds.counted, length-append feeds.bytes piece, c.in_ok-count.ensures.bound) in
    let has = λ (bytes : List ℕ). g.F.Fed.has_read c.feed.new.self bytes in
    record {
      feeds = record {
        bytes = feeds.bytes ++ piece;
        taken = Takes-append _ _ _ feeds.bytes piece feeds.taken c.in_ok-count.ensures.taken;
        counted = counted;
        fed = λ front had. subst has (append_assoc front feeds.bytes piece)
            (c.in-Ok.ensures.read (front ++ feeds.bytes) (feeds.fed front had));
      };
      ready = c.in-Ok.ensures.ready;
      within = omega (arith, c.loop-count.invariant.within, c.in_ok-count.ensures.within);
      room = omega (arith, c.loop-count.invariant.room);
      later = search rules;
      about = λ what is. c.in-Ok.ensures.about what (c.loop-count.invariant.about what is);
    }
