use Rattle.std.proofs.Common.{◌≡◌, ℕ, List, [], ◌∷◌, ◌++◌, Option, None, replicate, ap, ◌∙◌, arith}
use Rattle.std.proofs.lemmas.List.{replicate-append-replicate}
use Rattle.cal_jsonfmt.proofs.objects.choose_none.Goals as goal

pub loop-key-preserved : goal.loop-key-preserved
loop-key-preserved c =
    c.in_ok-push.ensures.items ∙ ap (λ (xs : List (Option ℕ)). xs ++ None ∷ []) c.loop-key.invariant ∙ replicate-append-replicate c.loop-key._key 1 None

pub returns : goal.returns
returns c =
    let all : c.loop-key._key ≡ c.args.count = omega (arith, c.loop-key-test.false) in
    c.loop-key.invariant ∙ ap (λ (n : ℕ). replicate n None) all
