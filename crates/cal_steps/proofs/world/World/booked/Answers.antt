use Rattle.std.proofs.Common.{◌++◌, ℕ, ◌<◌, List, length, ap, sym, ◌∙◌, arith}
use Rattle.std.proofs.lemmas.List.{get_or_default}
use Rattle.cal_events.specs.Worlds.{ThreadWorld, World, book_in, given_by, held_by, no_thread}
use Rattle.cal_events.specs.Worlds.{thread_in}
use Rattle.cal_steps.proofs.RowLemmas.{more-numbered}
use Rattle.cal_steps.proofs.world.World.booked.Goals as goal
use Rattle.cal_value.specs.declared.record.Rec.{Rec}

pub loop-number-preserved : goal.loop-number-preserved
loop-number-preserved c =
    let w = c.args.self.now in
    let place = c.args.place in
    let i = c.loop-number.number in
    let many = ap (λ (z : World). length z.threads) c.self.view_is in
    let below : i < length w.threads = omega (arith, many) in
    let kept = λ (t : ℕ × ThreadWorld).
    given_by t.0 (book_in w place) ++ (held_by t.1 place).unflushed in
    c.in_ok-push_booked.ensures
    ∙ ap (λ (rs : List Rec). rs ++ kept (i, thread_in w i)) c.loop-number.invariant
    ∙ sym (more-numbered kept 0 i i w.threads (thread_in w i) below (omega arith)
    (get_or_default w.threads i no_thread (thread_in w i) below))
