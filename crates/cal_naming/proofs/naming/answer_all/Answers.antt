use Rattle.std.proofs.Common.{◌≡◌, List, ℕ, length, sym, ap, ◌∙◌, subst, arith}
use Rattle.std.specs.Prelude.{All}
use Rattle.std.proofs.lemmas.List.{length-map}
use Rattle.cal_names.specs.Kept.{plan_of}
use Rattle.cal_naming.proofs.Working.{all-done, all-have-room, lent-back, same-lines, still-numbered}
use Rattle.cal_naming.specs.Settled.{IsSettled}
use Rattle.cal_naming.specs.Told.{HasRoom}
use Rattle.cal_naming.specs.Workers.{AreNumbered, IsDone, IsFirst, IsReady, are_done, lines_of}
use Rattle.cal_naming.specs.declared.worker.Worker.{Worker}
use Rattle.cal_once.specs.Seats.{view}
use Rattle.cal_value.specs.declared.attribute.Attribute.{Attribute}
use Rattle.cal_naming.proofs.naming.answer_all.Goals as goal

pub work_all-requires-clause-ready : goal.work_all-requires-clause-ready
work_all-requires-clause-ready g c κs within =
    subst (λ (ws : List Worker). All (IsReady c.args.names.now) ws)
    (sym c.as_mut_slice.ensures.value) c.in_ok-workers.ensures.ready

pub returns-then-not-are_done-clause-room : goal.returns-then-not-are_done-clause-room
returns-then-not-are_done-clause-room g c room =
    let names = c.args.names.now in
    let vec = c.in_ok-workers.workers in
    let new = c.work_all.new.workers in
    let value = c.as_mut_slice.ensures.value in
    let ok = vec.ok.0 in
    let back = lent-back vec.items c.as_mut_slice.result.now new vec.len value
    (omega (arith, ok)) c.work_all.ensures.many in
    let lines = sym (ap lines_of value ∙ c.in_ok-workers.ensures.lines) in
    let done = all-have-room names c.as_mut_slice.result.now new c.work_all.ensures.many
    c.work_all.ensures.worked
    (subst (λ (ts : List (List Attribute)). HasRoom (plan_of names).shape ts) lines room) in
    sym c.if-not-are_done.true ∙ c.are_done.ensures
    ∙ ap are_done (c.as_slice.ensures.value ∙ back) ∙ done

pub join_all-requires-clause-first : goal.join_all-requires-clause-first
join_all-requires-clause-first g c =
    let vec = c.in_ok-workers.workers in
    let new = c.work_all.new.workers in
    let value = c.as_mut_slice.ensures.value in
    let ok = vec.ok.0 in
    let back = lent-back vec.items c.as_mut_slice.result.now new vec.len value
    (omega (arith, ok)) c.work_all.ensures.many in
    let many : length c.args.threads.now ≡ length new =
    ap length (sym c.in_ok-workers.ensures.lines)
    ∙ length-map vec.items (λ (w : Worker). w.lines.now)
    ∙ sym (c.work_all.ensures.many ∙ ap length value) in
    subst (λ (n : ℕ). IsFirst c.args.names.now c.hire.new.first n)
    (many ∙ ap length (sym back)) c.in_ok-workers.ensures.first

pub join_all-requires-clause-done : goal.join_all-requires-clause-done
join_all-requires-clause-done g c =
    let names = c.args.names.now in
    let vec = c.in_ok-workers.workers in
    let new = c.work_all.new.workers in
    let value = c.as_mut_slice.ensures.value in
    let ok = vec.ok.0 in
    let back = lent-back vec.items c.as_mut_slice.result.now new vec.len value
    (omega (arith, ok)) c.work_all.ensures.many in
    subst (λ (ws : List Worker). All (IsDone names) ws) (sym back)
    (all-done names c.as_mut_slice.result.now new c.work_all.ensures.many
    c.work_all.ensures.worked
    (sym (c.are_done.ensures ∙ ap are_done (c.as_slice.ensures.value ∙ back))
    ∙ c.if-not-are_done.false))

pub join_all-requires-clause-numbers : goal.join_all-requires-clause-numbers
join_all-requires-clause-numbers g c =
    let names = c.args.names.now in
    let vec = c.in_ok-workers.workers in
    let new = c.work_all.new.workers in
    let value = c.as_mut_slice.ensures.value in
    let ok = vec.ok.0 in
    let back = lent-back vec.items c.as_mut_slice.result.now new vec.len value
    (omega (arith, ok)) c.work_all.ensures.many in
    subst (λ (ws : List Worker). AreNumbered ws) (sym back)
    (still-numbered names c.as_mut_slice.result.now new c.work_all.ensures.many
    c.work_all.ensures.worked
    (subst (λ (ws : List Worker). AreNumbered ws) (sym value) c.in_ok-workers.ensures.numbers))

pub returns-clause-settled : goal.returns-clause-settled
returns-clause-settled g c =
    let names = c.args.names.now in
    let vec = c.in_ok-workers.workers in
    let new = c.work_all.new.workers in
    let value = c.as_mut_slice.ensures.value in
    let ok = vec.ok.0 in
    let back = lent-back vec.items c.as_mut_slice.result.now new vec.len value
    (omega (arith, ok)) c.work_all.ensures.many in
    let lines = ap lines_of back
    ∙ same-lines names c.as_mut_slice.result.now new c.work_all.ensures.many
    c.work_all.ensures.worked
    ∙ ap lines_of value ∙ c.in_ok-workers.ensures.lines in
    subst (λ (ts : List (List Attribute)).
    IsSettled (plan_of names) (view c.join_all.new.first) ts c.in_ok-answers.answers.items)
    lines c.in_ok-answers.ensures
