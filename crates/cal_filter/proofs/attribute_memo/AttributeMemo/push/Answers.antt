use Rattle.std.proofs.Common.{◌≡◌, ◌+◌, [], ◌∷◌, ◌++◌, ap, ◌∙◌, arith}
use Rattle.cal_filter.specs.Memo.{marked}
use Rattle.cal_filter.proofs.attribute_memo.AttributeMemo.push.Goals as goal

pub returns : goal.returns
returns c =
    let e : c.in-Some.count ≡ c.self.inside.count + 1 = omega arith in
    ap (λ n. marked c.add_place.new.places.items n) e
    ∙ c.in_ok-add_place.ensures.added
    ∙ ap (λ xs. xs ++ c.args.holds ∷ []) c.self.view_is
