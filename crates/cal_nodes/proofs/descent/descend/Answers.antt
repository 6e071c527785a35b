use Rattle.std.proofs.Common.{◌≡◌, ◌++◌, [], ◌∷◌, List, Option, sym, ◌∙◌, subst, arith}
use Rattle.std.proofs.lemmas.List.{nil_from_length}
use Rattle.std.proofs.lemmas.Result.{err_from_is_err_and}
use Rattle.cal_context.proofs.CallerLemmas.{Grows-trans}
use Rattle.cal_context.specs.Tree as contexts
use Rattle.cal_context.specs.declared.numbers.NodeNumber.{NodeNumber}
use Rattle.cal_nodes.proofs.Descending.{GoesDown, can_descend-more, goes_down-more, put_all}
use Rattle.cal_nodes.proofs.Descending.{put_some}
use Rattle.cal_nodes.specs.Ways.{CanDescend, IsPut}
use Rattle.cal_nodes.specs.declared.way.Step.{Step}
use Rattle.cal_nodes.proofs.descent.descend.Goals as goal

pub returns-in_err-number-clause-put : goal.returns-in_err-number-clause-put
returns-in_err-number-clause-put c tree seat path w =
    let gone = err_from_is_err_and c.from_residual.result c.from_residual.ensures.1 in
    let goes = c.loop-step.invariant.goes.way tree seat path w in
    let same = c.in_err-number.ensures.err in
    let before = c.args.context.now in
    let old = c.args.numbers.now.items in
    let context = c.loop-step.context in
    let numbers = c.loop-step.numbers.items in
    let given = c.from_residual.result in
    subst (λ (t : contexts.Tree). IsPut tree seat t c.put.new.numbers.items before old path given)
    (sym same.0)
    (subst (λ (ns : List (Option NodeNumber)). IsPut tree seat context ns before old path given)
    (sym same.1)
    (put_some tree seat before context old numbers c.loop-step.number c.loop-step.steps.items path
    given gone.0 gone.1 goes.0 goes.1 goes.2))

pub loop-step-preserved : goal.loop-step-preserved
loop-step-preserved c =
    let inv = c.loop-step.invariant in
    let old = c.loop-step.context in
    let new = c.put.new.context in
    let numbers = c.loop-step.numbers.items in
    let parent = c.loop-step.number in
    let n = c.in_ok-number.number in
    let s = c.in-Some.step in
    let rest = c.pop.new.self.items in
    let added = c.in_ok-number.ensures.child in
    let kept = c.in_ok-number.ensures.kept in
    let once = c.put.ensures.once in
    let popped : c.loop-step.steps.items ≡ rest ++ s ∷ [] = c.in-Some.ensures.items in
    let can = subst (λ (st : List Step). CanDescend old numbers parent st) popped inv.can in
    let goes = subst (λ (st : List Step). GoesDown c.args.context.now c.args.numbers.now.items
    c.args.start c.args.steps.now.items old numbers parent st) popped inv.goes in
    record {
      grows = Grows-trans c.args.context.now old new inv.grows c.put.ensures.grows;
      attributes = added.attributes ∙ inv.attributes;
      can = subst (λ (ns : List (Option NodeNumber)). CanDescend new ns n rest) (sym kept)
          (can_descend-more old new numbers parent n s rest added.attributes added.child.within
          can);
      goes = subst (λ (ns : List (Option NodeNumber)). GoesDown c.args.context.now
          c.args.numbers.now.items c.args.start c.args.steps.now.items new ns n rest) (sym kept)
          (goes_down-more c.args.context.now c.args.numbers.now.items c.args.start
          c.args.steps.now.items old new numbers parent n s rest c.put.ensures.grows once.0
          once.1 added goes);
    }

pub returns-clause-put : goal.returns-clause-put
returns-clause-put c tree seat path w =
    let goes = c.loop-step.invariant.goes.way tree seat path w in
    let cases = c.in_default.ensures.cases in
    let none : c.loop-step.steps.items ≡ [] = nil_from_length c.loop-step.steps.items
    (omega (arith, cases)) in
    put_all tree seat c.args.context.now c.loop-step.context c.args.numbers.now.items
    c.loop-step.numbers.items c.loop-step.number c.loop-step.steps.items path none goes.0 goes.1
    goes.2
