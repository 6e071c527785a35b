use Rattle.std.proofs.Common.{inl, refl, sym}
use Rattle.cal_context.proofs.ListLemmas.{number_of_position, Contains-number}
use Rattle.cal_context.proofs.interner.Interner.intern_copy.Goals as goal

pub returns-in-Some-clause-interned : goal.returns-in-Some-clause-interned
returns-in-Some-clause-interned g c =
    let at = number_of_position g.met.T.Eq.laws g.met.T.Exact.tells _ c.in-Some.number c.args.item.now c.in-Some.ensures.index in
    rw (sym c.self.view_is) (record { number = at; adds = inl (Contains-number _ _ _ at, refl) })
