use Rattle.std.proofs.Common.{◌≡◌, ℕ, ◌-◌, take, ◌∙◌, ap, sym, arith}
use Rattle.std.proofs.lemmas.Str.{IsCharBoundary-before_ascii}
use Rattle.cal_tabfmt.proofs.EndLemmas.{end-none, end-other, end-space}
use Rattle.cal_tabfmt.proofs.ends.without_end.Goals as goal
use Rattle.cal_tabfmt.proofs.ends.without_end.Goals.{then-loop-end-test+else-bytes-end-eq32, else-loop-end-test}

pub loop-end-preserved : goal.loop-end-preserved
loop-end-preserved c =
    let text = c.args.text.now in
    let end = c.loop-end.end in
    let kept = c.loop-end.invariant in
    let space = rw c.as_bytes-bytes.ensures.value at c.if-bytes-end-eq32.true in
    record {
      within = omega (arith, kept.within);
      boundary = IsCharBoundary-before_ascii text (end - 1) (omega (arith, kept.within, c.loop-end-test.true)) (omega (arith, space));
      kept = kept.kept ∙ end-space text end c.loop-end-test.true kept.within space;
    }

pub returns : goal.returns
returns c =
    let text = c.args.text.now in
    let end = c.loop-end.end in
    let kept = c.loop-end.invariant in
    let same : end - 0 ≡ end = omega arith in
    c.range.ensures.value
    ∙ ap (λ (n : ℕ). take n text) same
    ∙ elim c.loop-end-test.branch [
      | then-loop-end-test+else-bytes-end-eq32 w ↦ sym (kept.kept ∙ end-other text end w.loop-end-test.true kept.within (rw c.as_bytes-bytes.ensures.value at w.if-bytes-end-eq32.false))
      | else-loop-end-test w ↦ sym (kept.kept ∙ end-none text end w.loop-end-test.false)
    ]
