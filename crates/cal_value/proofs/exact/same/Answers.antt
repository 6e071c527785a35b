use Rattle.std.proofs.Common.{◌≡◌, ◌∙◌, subst, sym, true}
use Rattle.cal_value.proofs.exact.same.Goals as goal

pub returns : goal.returns
returns g c =
    let one = c.args.one.now in
    let eq = g.T.PartialEq.eq in (
      λ t. g.met.T.Exact.tells _ _ (sym c.eq.ensures ∙ t),
      λ e. c.eq.ensures ∙ subst (λ z. eq one z ≡ true) e (g.met.T.Eq.laws.refl one),
    )
