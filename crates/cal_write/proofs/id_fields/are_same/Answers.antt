use Rattle.std.proofs.Common.{◌≡◌, ◌<◌, [], ◌∷◌, ◌++◌, length, get_or, sym, ◌∙◌, arith}
use Rattle.std.proofs.lemmas.List.{take_all, take_more}
use Rattle.cal_write.proofs.id_fields.are_same.Goals as goal

pub loop-place-preserved : goal.loop-place-preserved
loop-place-preserved c =
    let place = c.loop-place.place in
    let ids = c.args.ids.now in
    let others = c.args.others.now in
    let here : place < length ids = omega arith in
    let there : place < length others = omega arith in
    let same : get_or ids place 0 ≡ get_or others place 0 = omega arith in
    take_more ids place 0 here ∙ (λ j. c.loop-place.invariant j ++ same j ∷ [])
    ∙ sym (take_more others place 0 there)

pub returns : goal.returns
returns c = λ _.
    let place = c.loop-place.place in
    sym (take_all place c.args.ids.now (omega arith)) ∙ c.loop-place.invariant
    ∙ take_all place c.args.others.now (omega arith)
