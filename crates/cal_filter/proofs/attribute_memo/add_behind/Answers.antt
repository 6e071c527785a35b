use Rattle.std.proofs.Common.{◌≡◌, ◌-◌, ◌++◌, ap, arith, drop, length, subst, sym, take, ◌∙◌}
use Rattle.std.proofs.lemmas.List.{length-drop, take_all}
use Rattle.cal_filter.specs.Memo.{ArePlaces, marked}
use Rattle.cal_filter.proofs.MemoLemmas.{ArePlaces-joined, marked-joined}
use Rattle.cal_filter.proofs.attribute_memo.add_behind.Goals as goal

pub returns-clause-added : goal.returns-clause-added
returns-clause-added c =
    let old = c.args.places.now.items in
    let others = c.args.others.now in
    let start = c.count_below-start.result in
    let counted = length-drop start others in
    let whole : take (length others - start) (drop start others) ≡ drop start others =
    take_all (length others - start) (drop start others) (omega (arith, counted)) in
    ap (λ places. marked places c.args.count)
    (c.in_ok-extend_from_slice.ensures.items ∙ ap (λ rest. old ++ rest) whole)
    ∙ marked-joined old others c.args.first start c.args.count c.requires.own c.requires.others
    c.count_below-start.ensures.within c.count_below-start.ensures.below
    c.count_below-start.ensures.behind c.requires.more

pub returns-clause-ok : goal.returns-clause-ok
returns-clause-ok c =
    let old = c.args.places.now.items in
    let others = c.args.others.now in
    let start = c.count_below-start.result in
    let counted = length-drop start others in
    let whole : take (length others - start) (drop start others) ≡ drop start others =
    take_all (length others - start) (drop start others) (omega (arith, counted)) in
    subst (λ places. ArePlaces places c.args.count)
    (sym (c.in_ok-extend_from_slice.ensures.items ∙ ap (λ rest. old ++ rest) whole))
    (ArePlaces-joined old others c.args.first start c.args.count c.requires.own c.requires.others
    c.count_below-start.ensures.within c.count_below-start.ensures.below
    c.count_below-start.ensures.behind c.requires.more)
