use Rattle.std.proofs.Common.{◌≡◌, ◌++◌, ◌∷◌, [], sym, ap, ◌∙◌, arith}
use Rattle.cal_records.proofs.RisingLemmas.{range_more}
use Rattle.cal_records.proofs.sorting.numbers_below.Goals as goal

pub loop-place-preserved : goal.loop-place-preserved
loop-place-preserved c =
    let same : c.loop-place.place ≡ c.in-Ok.number = omega arith in
    c.in_ok-push.ensures.items
    ∙ ap (λ ns. ns ++ c.in-Ok.number ∷ []) c.loop-place.invariant
    ∙ sym (range_more c.loop-place.place c.in-Ok.number same)
