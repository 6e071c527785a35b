use Rattle.std.proofs.Common.{◌<◌, ◌++◌, length, ap, ◌∙◌, arith}
use Rattle.std.specs.List.{between}
use Rattle.std.proofs.lemmas.Result.{on_ok_weaker}
use Rattle.cal_line.proofs.EscapeSteps.{Writes-plain, Writes-special, Writes-all}
use Rattle.cal_line.proofs.Runs.{Runs-start}
use Rattle.cal_line.proofs.escaping.append_escaped.Goals as goal
use Rattle.cal_line.proofs.escaping.append_escaped.Goals.{in-Some+in_ok-push_str+in_ok-push_str-2, in_default}

pub loop-place-init : goal.loop-place-init
loop-place-init c = Runs-start c.args.text.now c.args.out.now c.utf8.text

pub loop-place-preserved : goal.loop-place-preserved
loop-place-preserved c =
    let within : c.loop-place.place < length c.args.text.now = omega (arith, ap length c.as_bytes-bytes.ensures.value) in
    elim c.match-escape_of.branch [
      | in-Some+in_ok-push_str+in_ok-push_str-2 w ↦ rw w.run-is (Writes-special _ _ _ _ _ _ c.loop-place.invariant c.utf8.text within
          (rw c.as_bytes-bytes.ensures.value at w.in-Some.ensures.1)
          (w.out-is ∙ w.in_ok-push_str-2.ensures.ok
          ∙ ap (λ front. front ++ w.in-Some.escape.now) (w.in_ok-push_str.ensures.ok ∙ ap (λ run. c.loop-place.out ++ run) w.range.ensures.value)
          ∙ ap (λ escape. (c.loop-place.out ++ between c.loop-place.run c.loop-place.place c.args.text.now) ++ escape) (rw c.as_bytes-bytes.ensures.value at w.in-Some.ensures.0)))
      | in_default w ↦ rw (w.run-is, w.out-is) (Writes-plain _ _ _ _ _ c.loop-place.invariant within (rw c.as_bytes-bytes.ensures.value at w.in_default.ensures))
    ]

pub returns-clause-ok : goal.returns-clause-ok
returns-clause-ok c =
    on_ok_weaker c.push_str-2.result
    (λ is. Writes-all c.args.text.now c.args.out.now c.loop-place.out c.push_str-2.new.self c.loop-place.run c.loop-place.place c.loop-place.invariant (omega (arith, ap length c.as_bytes-bytes.ensures.value)) (is ∙ ap (λ run. c.loop-place.out ++ run) c.range_from.ensures.value))
    c.push_str-2.ensures.ok
