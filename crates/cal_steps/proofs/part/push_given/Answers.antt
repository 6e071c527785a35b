use Rattle.std.proofs.Common.{◌++◌, List, ap, sym, ◌∙◌, take, append_assoc}
use Rattle.cal_events.specs.Worlds.{given_by}
use Rattle.cal_steps.proofs.RowLemmas.{given-more}
use Rattle.cal_steps.proofs.part.push_given.Goals as goal
use Rattle.cal_value.specs.declared.record.Rec.{Rec}
use Rattle.std.proofs.Common.{[], ◌∷◌}

pub loop-part-preserved : goal.loop-part-preserved
loop-part-preserved c =
    let t = c.args.thread in
    let i = c.loop-part.part-index in
    let part = c.part-item.result in
    c.in_ok-push_part.ensures
    ∙ ap (λ (rs : List Rec). rs ++ given_by t (part ∷ [])) c.loop-part.invariant
    ∙ append_assoc c.args.taken.now (given_by t (take i c.args.book.now)) (given_by t (part ∷ []))
    ∙ ap (λ (rs : List Rec). c.args.taken.now ++ rs)
    (sym (given-more t i c.args.book.now part c.loop-part-test.true c.part-item.is))
