use Rattle.std.proofs.Common.{ℕ, ◌<◌, List, [], ◌∷◌, ◌++◌, length, ap, ◌∙◌, arith}
use Rattle.cal_line.proofs.Runs.{Runs-start}
use Rattle.cal_tabfmt.proofs.NewlineSteps.{Runs-newline, Runs-plain}
use Rattle.cal_tabfmt.proofs.shown_text.on_line.Goals as goal
use Rattle.cal_tabfmt.proofs.shown_text.on_line.Goals.{then-bytes-place-eq10+in_ok-push_str+in_ok-push_str-2, else-bytes-place-eq10}

pub loop-place-init : goal.loop-place-init
loop-place-init c = rw c.new-out.ensures (Runs-start c.args.text.now [] c.utf8.text)

pub loop-place-preserved : goal.loop-place-preserved
loop-place-preserved c =
    let within : c.loop-place.place < length c.args.text.now = omega (arith, ap length c.as_bytes-bytes.ensures.value, c.loop-place-test.true) in
    elim c.if-bytes-place-eq10.branch [
      | then-bytes-place-eq10+in_ok-push_str+in_ok-push_str-2 w ↦ rw w.run-is (Runs-newline _ _ _ _ _ _ c.loop-place.invariant c.utf8.text within
          (rw c.as_bytes-bytes.ensures.value at w.if-bytes-place-eq10.true)
          (w.out-is ∙ w.in_ok-push_str-2.ensures.ok
          ∙ ap (λ (front : List ℕ). front ++ 92 ∷ 110 ∷ []) (w.in_ok-push_str.ensures.ok ∙ ap (λ (run : List ℕ). c.loop-place.out ++ run) w.range.ensures.value)))
      | else-bytes-place-eq10 w ↦ rw (w.run-is, w.out-is) (Runs-plain _ _ _ _ _ c.loop-place.invariant within (rw c.as_bytes-bytes.ensures.value at w.if-bytes-place-eq10.false))
    ]
