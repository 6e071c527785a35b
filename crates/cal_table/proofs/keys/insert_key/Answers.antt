use Rattle.std.proofs.Common.{◌≡◌, Bool, true, false, [], ◌∷◌, ◌++◌, slice_get, not, sym, ap, ◌∙◌, refl}
use Rattle.std.specs.Prelude.{if◌then◌else◌}
use Rattle.cal_context.proofs.ListLemmas.{number_of_equal}
use Rattle.cal_table.proofs.keys.insert_key.Goals as goal

not_true : (b : Bool) → not b ≡ true → b ≡ false
not_true true e = absurd cc
not_true false e = refl

not_false : (b : Bool) → not b ≡ false → b ≡ true
not_false true e = refl
not_false false e = absurd cc

pub returns-then-fresh-clause-added : goal.returns-then-fresh-clause-added
returns-then-fresh-clause-added g c =
    let absent = not_true _ (sym c.in-Ok.ensures.added ∙ c.if-fresh.true) in
    c.in-Ok.ensures.keys ∙ ap (λ (b : Bool). if b then c.args.keys.now.keys else c.args.keys.now.keys ++ c.args.key ∷ []) absent

pub returns-else-fresh-clause-there : goal.returns-else-fresh-clause-there
returns-else-fresh-clause-there g c =
    let there = not_false _ (sym c.in-Ok.ensures.added ∙ c.if-fresh.false) in
    let now = c.in-Ok.ensures.keys ∙ ap (λ (b : Bool). if b then c.args.keys.now.keys else c.args.keys.now.keys ++ c.args.key ∷ []) there in
    let stored = c.in-Ok.ensures.stored in
    (now, ap (λ l. slice_get l c.in-Ok.number) (sym now) ∙ number_of_equal g.met.K.Eq.laws g.met.K.Exact.tells _ c.in-Ok.number c.args.key stored.0 stored.1 stored.2)
