use Rattle.std.proofs.Common.{◌≡◌, ◌+◌, true, false, [], ◌∷◌, ◌++◌, subst, sym, ◌∙◌, ap, rules}
use Rattle.cal_filter.specs.Memo.{ArePlaces, marked}
use Rattle.cal_filter.proofs.MemoLemmas.{ArePlaces-more, ArePlaces-push, marked-false, marked-true}
use Rattle.cal_filter.proofs.attribute_memo.add_place.Goals as goal

pub returns-then-not-holds-clause-added : goal.returns-then-not-holds-clause-added
returns-then-not-holds-clause-added c =
    let e : c.args.holds ≡ false = search rules in
    marked-false c.args.places.now.items c.args.count c.requires
    ∙ ap (λ b. marked c.args.places.now.items c.args.count ++ b ∷ []) (sym e)

pub returns-then-not-holds-clause-ok : goal.returns-then-not-holds-clause-ok
returns-then-not-holds-clause-ok c = ArePlaces-more c.args.places.now.items c.args.count c.requires

pub returns-clause-added : goal.returns-clause-added
returns-clause-added c =
    let e : c.args.holds ≡ true = search rules in
    ap (λ places. marked places (c.args.count + 1)) c.in_ok-push.ensures.items
    ∙ marked-true c.args.places.now.items c.args.count
    ∙ ap (λ b. marked c.args.places.now.items c.args.count ++ b ∷ []) (sym e)

pub returns-clause-ok : goal.returns-clause-ok
returns-clause-ok c =
    subst (λ places. ArePlaces places (c.args.count + 1)) (sym c.in_ok-push.ensures.items)
    (ArePlaces-push c.args.places.now.items c.args.count c.requires)
