use Rattle.std.proofs.Common.{take, get_or, subst, sym, refl, Contains}
use Rattle.std.specs.Prelude.{IsTrue}
use Rattle.std.proofs.lemmas.List.{take_all, take_more}
use Rattle.std.proofs.lemmas.List.Elements.{All-push}
use Rattle.cal_events.specs.Keeping.{HasPaths}
use Rattle.cal_steps.proofs.paths.first_new.Goals as goal

pub loop-path-preserved : goal.loop-path-preserved
loop-path-preserved c =
    let paths = c.args.paths.now in
    let held = c.args.held.now in
    let i = c.loop-path.path-index in
    let path = c.path-item.result in
    let there : Contains paths path =
    c.has_path.ensures.there (subst IsTrue (sym c.if-not-has_path.false) refl) in
    subst (HasPaths paths) (sym (take_more held i path c.loop-path-test.true))
    (All-push (Contains paths) (take i held) (get_or held i path) c.loop-path.invariant
    (subst (Contains paths) c.path-item.is there))

pub returns-clause-none : goal.returns-clause-none
returns-clause-none c =
    subst (HasPaths c.args.paths.now)
    (take_all c.loop-path.path-index c.args.held.now c.loop-path-test.false) c.loop-path.invariant
