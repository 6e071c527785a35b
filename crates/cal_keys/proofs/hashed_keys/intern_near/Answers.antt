use Rattle.std.proofs.Common.{inl, refl}
use Rattle.cal_context.proofs.ListLemmas.{Contains-number}
use Rattle.cal_keys.proofs.hashed_keys.intern_near.Goals as goal

pub returns-then-has_at-clause-interned : goal.returns-then-has_at-clause-interned
returns-then-has_at-clause-interned c =
    let at = rw c.as_slice.ensures.items at (c.has_at.ensures c.if-has_at.true) in
    record { number = at; adds = inl (Contains-number c.args.keys.now c.args.near c.args.key.now at, refl) }
