use Rattle.std.proofs.Common.{ℕ, List, ◌≡◌, ◌≢◌, ◌++◌, ◌∷◌, [], ◌+◌, ◌<◌, get_or, length, ap, ◌∙◌, arith}
use Rattle.std.specs.List.{between}
use Rattle.cal_line.proofs.TokenSteps.{spelled_text-lone}
use Rattle.cal_line.proofs.TextSteps.{Unescaped-start, Unescaped-itself, Unescaped-newline, Unescaped-byte, text_of-unescaped, appended-unescaped}
use Rattle.cal_line.proofs.unescaping.append_spelled.Goals as goal
use Rattle.cal_line.proofs.unescaping.append_spelled.Goals.{then-bytes-run-eq110+in_ok-push, else-bytes-run-eq110}

pub loop-place-init : goal.loop-place-init
loop-place-init c = Unescaped-start c.args.written.now c.args.out.now c.utf8.written

pub loop-place-preserved-then-bytes-place-ne92 : goal.loop-place-preserved-then-bytes-place-ne92
loop-place-preserved-then-bytes-place-ne92 c =
    let other : get_or c.args.written.now c.loop-place.place 0 ≢ 92 = rw c.as_bytes-bytes.ensures.value at c.if-bytes-place-ne92.true in
    Unescaped-itself c.args.written.now c.args.out.now c.loop-place.out c.loop-place.run c.loop-place.place c.loop-place.invariant (omega (arith, ap length c.as_bytes-bytes.ensures.value)) other

pub returns-then-place-bytes-clause-front : goal.returns-then-place-bytes-clause-front
returns-then-place-bytes-clause-front c = (c.loop-place.invariant.runs.text, c.loop-place.invariant.runs.appended)

pub returns-then-place-bytes-clause-bad : goal.returns-then-place-bytes-clause-bad
returns-then-place-bytes-clause-bad c = λ _.
    let backslash : get_or c.args.written.now c.loop-place.place 0 ≡ 92 = rw c.as_bytes-bytes.ensures.value at c.if-bytes-place-ne92.false in
    spelled_text-lone c.args.written.now c.loop-place.place c.loop-place.invariant.tokens c.loop-place.invariant.spell (omega (arith, ap length c.as_bytes-bytes.ensures.value)) backslash

pub returns-in_err-push_str-clause-front : goal.returns-in_err-push_str-clause-front
returns-in_err-push_str-clause-front c = (c.loop-place.invariant.runs.text, c.in_err-push_str.ensures.err ∙ c.loop-place.invariant.runs.appended)

pub loop-place-preserved : goal.loop-place-preserved
unfolding lib.Utf8.encode
loop-place-preserved c =
    let written = c.args.written.now in
    let within : c.loop-place.place + 1 < length written = omega (arith, ap length c.as_bytes-bytes.ensures.value) in
    let backslash : get_or written c.loop-place.place 0 ≡ 92 = rw c.as_bytes-bytes.ensures.value at c.if-bytes-place-ne92.false in
    let pushed : c.push_str.new.self ≡ c.loop-place.out ++ between c.loop-place.run c.loop-place.place written =
    c.in_ok-push_str.ensures.ok ∙ ap (λ (run : List ℕ). c.loop-place.out ++ run) c.range.ensures.value
    in
    elim c.if-bytes-run-eq110.branch [
      | then-bytes-run-eq110+in_ok-push w ↦ (
          let letter : get_or written (c.loop-place.place + 1) 0 ≡ 110 = rw c.as_bytes-bytes.ensures.value at w.if-bytes-run-eq110.true in
          rw w.run-is (Unescaped-newline written c.args.out.now c.loop-place.out _ c.loop-place.run c.loop-place.place c.loop-place.invariant c.utf8.written within backslash letter
          (w.out-is ∙ w.in_ok-push.ensures.ok ∙ ap (λ (front : List ℕ). front ++ 10 ∷ []) pushed)))
      | else-bytes-run-eq110 w ↦ (
          let other : get_or written (c.loop-place.place + 1) 0 ≢ 110 = rw c.as_bytes-bytes.ensures.value at w.if-bytes-run-eq110.false in
          rw w.run-is (Unescaped-byte written c.args.out.now c.loop-place.out _ c.loop-place.run c.loop-place.place c.loop-place.invariant c.utf8.written within backslash other (w.out-is ∙ pushed)))
    ]

pub returns-in_err-push_str-2-clause-front : goal.returns-in_err-push_str-2-clause-front
returns-in_err-push_str-2-clause-front c = (c.loop-place.invariant.runs.text, c.in_err-push_str-2.ensures.err ∙ c.loop-place.invariant.runs.appended)

pub returns-clause-spelled : goal.returns-clause-spelled
returns-clause-spelled c =
    (text_of-unescaped c.args.written.now c.args.out.now c.loop-place.out c.loop-place.run c.loop-place.place c.loop-place.invariant (omega (arith, ap length c.as_bytes-bytes.ensures.value))).0

pub returns-clause-appended : goal.returns-clause-appended
returns-clause-appended c =
    appended-unescaped c.args.written.now c.args.out.now c.loop-place.out _ c.loop-place.run c.loop-place.place c.loop-place.invariant (omega (arith, ap length c.as_bytes-bytes.ensures.value))
    (c.in_ok-push_str-2.ensures.ok ∙ ap (λ (run : List ℕ). c.loop-place.out ++ run) c.range_from.ensures.value)
