use Rattle.std.proofs.Common.{◌++◌, List, ◌∷◌, [], ap, subst, ◌∙◌, Contains}
use Rattle.std.proofs.lemmas.Result.{on_ok_weaker}
use Rattle.cal_events.proofs.BoardLemmas.{Path}
use Rattle.cal_events.specs.Keeping.{HasPaths}
use Rattle.cal_steps.proofs.AddingLemmas.{nothing-new, one-new}
use Rattle.cal_steps.proofs.paths.add_newest.Goals as goal

pub returns-in-None-clause-ok : goal.returns-in-None-clause-ok
returns-in-None-clause-ok c = λ newest is.
    nothing-new c.args.paths.now c.args.held.now newest is
    (subst (λ (ps : List Path). HasPaths ps c.args.held.now) c.as_slice.ensures
    c.in-None.ensures.none)

pub returns-in_ok-path-in-Some-clause-ok : goal.returns-in_ok-path-in-Some-clause-ok
returns-in_ok-path-in-Some-clause-ok c =
    let path = c.in-Some.path.now in
    on_ok_weaker c.push.result (λ pushed newest is. pushed
    ∙ ap (λ (p : Path). c.args.paths.now ++ p ∷ []) c.in_ok-path-in-Some.ensures
    ∙ one-new c.args.paths.now c.args.held.now newest is path c.in-Some.ensures.held
    (subst (λ (ps : List Path). Contains ps path → ⊥) c.as_slice.ensures c.in-Some.ensures.new))
    c.push.ensures.ok
