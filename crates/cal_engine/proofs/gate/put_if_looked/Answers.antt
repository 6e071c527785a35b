use Rattle.std.proofs.Common.{◌≡◌, true, false, [], ◌∷◌, ◌++◌, take, sym, subst, ap, ◌∙◌, append-nil, if◌then◌else◌}
use Rattle.std.specs.List.{All}
use Rattle.std.proofs.lemmas.List.Elements.{All-cons, All-nil}
use Rattle.cal_context.specs.declared.snapshot.Immediate.{Immediate}
use Rattle.cal_value.specs.Reading.{IsSmall}
use Rattle.cal_engine.specs.Looked.{is_looked}
use Rattle.cal_engine.proofs.gate.put_if_looked.Goals as goal

pub returns-then-not-has-clause-front : goal.returns-then-not-has-clause-front
returns-then-not-has-clause-front c =
    let isnt : is_looked c.args.looked.now c.args.imm.now.attribute ≡ false =
    sym c.has.ensures ∙ c.if-not-has.true in
    let before = take c.args.place c.args.imms.now.items in
    sym (ap (λ b. before ++ (if b then c.args.imm.now ∷ [] else [])) isnt ∙ append-nil before)

pub returns-then-not-has-clause-small : goal.returns-then-not-has-clause-small
returns-then-not-has-clause-small c =
    let isnt : is_looked c.args.looked.now c.args.imm.now.attribute ≡ false =
    sym c.has.ensures ∙ c.if-not-has.true in
    let small = λ (imm : Immediate). IsSmall imm.value in
    subst (λ b. All small (if b then c.args.imm.now ∷ [] else [])) (sym isnt) (All-nil small)

pub returns-clause-front : goal.returns-clause-front
returns-clause-front c =
    let is : is_looked c.args.looked.now c.args.imm.now.attribute ≡ true =
    sym c.has.ensures ∙ c.if-not-has.false in
    let before = take c.args.place c.args.imms.now.items in
    c.in_ok-put_copy.ensures.front
    ∙ sym (ap (λ b. before ++ (if b then c.args.imm.now ∷ [] else [])) is)

pub returns-clause-small : goal.returns-clause-small
returns-clause-small c =
    let is : is_looked c.args.looked.now c.args.imm.now.attribute ≡ true =
    sym c.has.ensures ∙ c.if-not-has.false in
    let small = λ (imm : Immediate). IsSmall imm.value in
    subst (λ b. All small (if b then c.args.imm.now ∷ [] else [])) (sym is)
    (All-cons small c.args.imm.now [] c.in_ok-put_copy.ensures.small (All-nil small))
