use Rattle.std.proofs.Common.{◌<◌, ◌++◌, List, length, get_or, ap, subst, sym, ◌∙◌, append_assoc, take}
use Rattle.std.specs.Prelude.{flat_map}
use Rattle.cal_events.specs.Worlds.{ThreadWorld, World, held_by}
use Rattle.cal_steps.proofs.RowLemmas.{more-items}
use Rattle.cal_steps.proofs.world.World.push_traced.Goals as goal
use Rattle.cal_value.specs.declared.record.Rec.{Rec}

pub loop-thread-preserved : goal.loop-thread-preserved
loop-thread-preserved c =
    let place = c.args.place in
    let i = c.loop-thread.thread-index in
    let ts = c.args.self.now.threads in
    let thread = c.thread-item.result in
    let all = c.as_slice-thread-items.ensures.value
    ∙ ap (λ (z : World). z.threads) c.self.view_is in
    let trace = λ (t : ThreadWorld). (held_by t place).trace in
    c.in_ok-push_trace.ensures
    ∙ ap (λ (rs : List Rec). rs ++ trace thread) c.loop-thread.invariant
    ∙ append_assoc c.args.rows.now (flat_map trace (take i ts)) (trace thread)
    ∙ ap (λ (rs : List Rec). c.args.rows.now ++ rs) (sym (more-items trace i ts thread
    (subst (λ (us : List ThreadWorld). i < length us) all c.loop-thread-test.true)
    (c.thread-item.is ∙ ap (λ (us : List ThreadWorld). get_or us i thread) all)))
