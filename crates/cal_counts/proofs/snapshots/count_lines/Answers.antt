use Rattle.std.proofs.Common.{cond, arith}
use Rattle.std.specs.Prelude.{zip}
use Rattle.cal_run.specs.Counting.{is_noted_taken}
use Rattle.cal_script.specs.declared.journal.LineNote.{LineNote}
use Rattle.cal_script.specs.declared.script.Line.{Line}
use Rattle.cal_counts.proofs.CountingLemmas.{one-at_most, one-or-none, sum-all, sum-more, zip-at}
use Rattle.cal_counts.proofs.CountingLemmas.{zip-below, zip-past}
use Rattle.cal_counts.proofs.snapshots.count_lines.Goals as goal

pub overflow_add-count : goal.overflow_add-count
overflow_add-count c =
    let one = one-at_most _ _ c.count_line-count.ensures in
    omega (arith, one, c.loop-place.invariant.few, c.loop-place-test.true, c.requires.few)

pub loop-place-preserved : goal.loop-place-preserved
loop-place-preserved c =
    let lines = c.args.lines.now in
    let notes = c.args.notes.now in
    let i = c.loop-place.place in
    let below = c.loop-place-test.true in
    let l = c.noted_at-line.result.0 in
    let n = c.noted_at-line.result.1 in
    let test = is_noted_taken c.args.script.now c.args.channel.now in
    let one = one-at_most _ _ c.count_line-count.ensures in
    record {
      counted = sum-more (λ (x : Line × LineNote). cond (test x) 1 0) (zip lines notes) i (l, n)
          c.loop-place.count c.count_line-count.result
          (zip-below lines notes c.requires.noted i below)
          (zip-at lines notes c.requires.noted i l n (c.noted_at-line.ensures.line l)
          (c.noted_at-line.ensures.note n) below)
          (one-or-none (test (l, n)) c.count_line-count.result c.count_line-count.ensures)
          c.loop-place.invariant.counted;
      few = omega (arith, one, c.loop-place.invariant.few);
    }

pub returns-clause-counted : goal.returns-clause-counted
returns-clause-counted c =
    let lines = c.args.lines.now in
    let notes = c.args.notes.now in
    let test = is_noted_taken c.args.script.now c.args.channel.now in
    sum-all (λ (x : Line × LineNote). cond (test x) 1 0) (zip lines notes) c.loop-place.place
    c.loop-place.count (zip-past lines notes c.requires.noted c.loop-place.place
    c.loop-place-test.false) c.loop-place.invariant.counted
