use Rattle.std.proofs.Common.{◌≡◌, ◌+◌, suc, true, false, sym, ◌∙◌, ap, arith, rules, take}
use Rattle.std.specs.List.{list_all}
use Rattle.std.proofs.lemmas.List.{take_all}
use Rattle.cal_context.specs.Snapshots.{meaning}
use Rattle.cal_filter.specs.Conditions.{cond_holds}
use Rattle.cal_filter.specs.Ready.{IsReadyCondition}
use Rattle.cal_filter.proofs.Applying.{all_false, all_next}
use Rattle.cal_filter.proofs.Zips.{partner, zip_length}
use Rattle.cal_filter.proofs.filter.keeps.Goals as goal

pub returns-then-not-holds : goal.returns-then-not-holds
returns-then-not-holds c = λ conds zip.
    let r = meaning c.args.context.now c.args.snapshot.now in
    let i = c.loop-condition.condition-index in
    let p = partner (IsReadyCondition c.args.context.now) conds c.args.conditions.now i
    c.condition-item.result zip (omega arith) c.condition-item.is in
    let fails : c.holds.result ≡ false = search rules in
    sym (all_false (λ d. cond_holds d r) conds (suc i)
    (all_next (λ d. cond_holds d r) (take (suc i) conds) (take i conds) p.item true false p.front
    (c.loop-condition.invariant conds zip) (sym (c.holds.ensures p.item p.together) ∙ fails)))

pub loop-condition-preserved : goal.loop-condition-preserved
loop-condition-preserved c = λ conds zip.
    let r = meaning c.args.context.now c.args.snapshot.now in
    let i = c.loop-condition.condition-index in
    let p = partner (IsReadyCondition c.args.context.now) conds c.args.conditions.now i
    c.condition-item.result zip (omega arith) c.condition-item.is in
    let holds : c.holds.result ≡ true = search rules in
    let next : i + 1 ≡ suc i = omega arith in
    ap (λ n. list_all (λ d. cond_holds d r) (take n conds)) next
    ∙ all_next (λ d. cond_holds d r) (take (suc i) conds) (take i conds) p.item true true p.front
    (c.loop-condition.invariant conds zip) (sym (c.holds.ensures p.item p.together) ∙ holds)

pub returns : goal.returns
returns c = λ conds zip.
    let r = meaning c.args.context.now c.args.snapshot.now in
    let counted = zip_length (IsReadyCondition c.args.context.now) conds c.args.conditions.now zip in
    sym (c.loop-condition.invariant conds zip)
    ∙ ap (list_all (λ d. cond_holds d r))
    (take_all c.loop-condition.condition-index conds (omega arith))
