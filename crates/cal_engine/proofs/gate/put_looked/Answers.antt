use Rattle.std.proofs.Common.{◌<◌, ◌∷◌, [], ◌++◌, filter, length, take, sym, subst, ap, ◌∙◌, arith}
use Rattle.std.specs.List.{All}
use Rattle.std.proofs.lemmas.List.{take_all, take_more}
use Rattle.std.proofs.lemmas.List.Elements.{All-append, filter-append}
use Rattle.cal_context.specs.declared.snapshot.Immediate.{Immediate}
use Rattle.cal_value.specs.Reading.{IsSmall}
use Rattle.cal_engine.specs.Looked.{is_looked}
use Rattle.cal_engine.proofs.gate.put_looked.Goals as goal

pub loop-imm-preserved : goal.loop-imm-preserved
loop-imm-preserved c =
    let others = c.args.others.now in
    let p = λ (imm : Immediate). is_looked c.args.looked.now imm.attribute in
    let small = λ (imm : Immediate). IsSmall imm.value in
    let i = c.loop-imm.imm-index in
    let within : i < length others = omega arith in
    let now = c.in_ok-place.ensures in
    record {
      front = now.front
          ∙ (λ j. c.loop-imm.invariant.front j ++ filter p (c.imm-item.is j ∷ []))
          ∙ sym (ap (filter p) (take_more others i c.imm-item.result within)
          ∙ filter-append p (take i others) _);
      within = now.within;
      small = subst (All small) (sym now.front)
          (All-append small (take c.loop-imm.place c.loop-imm.imms.items)
          (filter p (c.imm-item.result ∷ [])) c.loop-imm.invariant.small now.small);
    }

pub returns-clause-same : goal.returns-clause-same
returns-clause-same c =
    c.shorten.ensures ∙ c.loop-imm.invariant.front
    ∙ ap (filter (λ (imm : Immediate). is_looked c.args.looked.now imm.attribute))
    (take_all c.loop-imm.imm-index c.args.others.now c.loop-imm-test.false)

pub returns-clause-small : goal.returns-clause-small
returns-clause-small c =
    subst (All (λ (imm : Immediate). IsSmall imm.value)) (sym c.shorten.ensures)
    c.loop-imm.invariant.small
