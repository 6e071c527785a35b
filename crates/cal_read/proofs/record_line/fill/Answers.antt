use Rattle.std.proofs.Common.{◌≡◌, ℕ, List, length, map, sym, ap, ◌∙◌, subst}
use Rattle.std.specs.List.{zip}
use Rattle.std.proofs.lemmas.List.{length-map}
use Rattle.cal_context.specs.Snapshots.{IsIn, meaning, entry_of as imm_entry}
use Rattle.cal_context.specs.Tree.{attribute_at}
use Rattle.cal_value.specs.declared.attribute.Attribute.{Attribute}
use Rattle.cal_read.specs.Columns.{AreEnds, AreFound, AreNumbers}
use Rattle.cal_read.specs.Fields.{each}
use Rattle.cal_read.specs.Keys.{values_in}
use Rattle.cal_read.specs.NodeLines.{known, as_attribute}
use Rattle.cal_read.specs.RecordLines.{entry_of, record_of_ids}
use Rattle.cal_read.specs.Steps.{AnswersFor}
use Rattle.cal_read.proofs.EachLemmas.{each-length}
use Rattle.cal_read.proofs.RecordLemmas.{refs_fault, ids_fault, attributes_fault, filled}
use Rattle.cal_read.proofs.StepLemmas.{refusal_passes}
use Rattle.cal_read.proofs.record_line.fill.Goals as goal

pub returns-in_err-push_nodes : goal.returns-in_err-push_nodes
returns-in_err-push_nodes c = λ named are.
    refusal_passes {A = Unit {0}} (λ _. AreEnds c.args.context.now c.push_nodes.new.ends.items) _ _ (each (known named) c.deref.result.now)
    (record_of_ids named c.args.columns.now.refs.items c.args.columns.now.ids.items (values_in c.args.texts.now))
    (λ k e. refs_fault named c.args.columns.now.refs.items c.args.columns.now.ids.items (values_in c.args.texts.now) k (ap (each (known named)) (sym c.deref.ensures.value) ∙ e))
    (c.in_err-push_nodes.ensures c.args.context.now named are) _ c.from_residual.ensures

pub returns-in_err-push_found : goal.returns-in_err-push_found
returns-in_err-push_found c = λ named are.
    let ends = c.in_ok-push_nodes.ensures c.args.context.now named are in
    refusal_passes {A = Unit {0}} (λ _. AreFound c.args.context.now c.push_found.new.found.items) _ _ (each (known named) c.deref-2.result.now)
    (record_of_ids named c.args.columns.now.refs.items c.args.columns.now.ids.items (values_in c.args.texts.now))
    (λ k e. ids_fault named c.args.columns.now.refs.items c.args.columns.now.ids.items (values_in c.args.texts.now) ends.0
    (ap (each (known named)) (sym c.deref.ensures.value) ∙ ends.1) k (ap (each (known named)) (sym c.deref-2.ensures.value) ∙ e))
    (c.in_err-push_found.ensures c.args.context.now named are) _ c.from_residual-in_err-push_found.ensures

pub returns-in_err-push_numbers : goal.returns-in_err-push_numbers
returns-in_err-push_numbers c = λ named are.
    let ends = c.in_ok-push_nodes.ensures c.args.context.now named are in
    let nodes = c.in_ok-push_found.ensures c.args.context.now named are in
    refusal_passes {A = Unit {0}} (λ _. AreNumbers c.args.context.now c.push_numbers.new.numbers.items) _ _ (each as_attribute nodes.0)
    (record_of_ids named c.args.columns.now.refs.items c.args.columns.now.ids.items (values_in c.args.texts.now))
    (λ k e. attributes_fault named c.args.columns.now.refs.items c.args.columns.now.ids.items (values_in c.args.texts.now) ends.0
    (ap (each (known named)) (sym c.deref.ensures.value) ∙ ends.1) nodes.0 (ap (each (known named)) (sym c.deref-2.ensures.value) ∙ nodes.1) k e)
    (c.in_err-push_numbers.ensures c.args.context.now nodes.0 (subst (λ l. AreFound c.args.context.now l nodes.0) (sym c.deref-3.ensures.value) nodes.2))
    _ c.from_residual-in_err-push_numbers.ensures

pub push_imms-requires-clause-even : goal.push_imms-requires-clause-even
push_imms-requires-clause-even c =
    let nodes = c.in_ok-push_found.ensures c.args.context.now c.requires.held.0 c.requires.held.1 in
    let attributes = c.in_ok-push_numbers.ensures c.args.context.now nodes.0 (subst (λ l. AreFound c.args.context.now l nodes.0) (sym c.deref-3.ensures.value) nodes.2) in
    ap length c.deref-in-Some.ensures.value
    ∙ sym (length-map c.push_numbers.new.numbers.items (attribute_at c.args.context.now)) ∙ ap length attributes.2.are
    ∙ each-length as_attribute nodes.0 attributes.0 attributes.1
    ∙ each-length (known c.requires.held.0) c.deref-2.result.now nodes.0 nodes.1
    ∙ ap length c.deref-2.ensures.value
    ∙ c.requires.even ∙ ap (λ o. length (values_in o)) c.in-Some.is

pub returns-in-Some : goal.returns-in-Some
returns-in-Some c = λ named are.
    let ends = c.in_ok-push_nodes.ensures c.args.context.now named are in
    let nodes = c.in_ok-push_found.ensures c.args.context.now named are in
    let attributes = c.in_ok-push_numbers.ensures c.args.context.now nodes.0 (subst (λ l. AreFound c.args.context.now l nodes.0) (sym c.deref-3.ensures.value) nodes.2) in
    subst (λ (texts : List (List ℕ)). AnswersFor
    (λ _ r. IsIn c.args.context.now (record { nodes = c.push_nodes.new.ends; imms = c.push_imms.new.imms })
    × (meaning c.args.context.now (record { nodes = c.push_nodes.new.ends; imms = c.push_imms.new.imms }) ≡ r))
    c.push_imms.result (record_of_ids named c.args.columns.now.refs.items c.args.columns.now.ids.items texts)) (sym (ap values_in c.in-Some.is))
    (filled named c.args.columns.now.refs.items c.args.columns.now.ids.items c.in-Some.texts.values ends.0 (ap (each (known named)) (sym c.deref.ensures.value) ∙ ends.1)
    nodes.0 (ap (each (known named)) (sym c.deref-2.ensures.value) ∙ nodes.1) attributes.0 attributes.1 c.args.context.now
    (record { nodes = c.push_nodes.new.ends; imms = c.push_imms.new.imms }) ends.2 c.push_imms.ensures.known c.push_imms.result
    (subst (λ (list : List Attribute). AnswersFor (λ _ entries. map (imm_entry c.args.context.now) c.push_imms.new.imms.items ≡ entries) c.push_imms.result
    (each entry_of (zip list c.in-Some.texts.values)))
    (ap (map (attribute_at c.args.context.now)) c.deref-in-Some.ensures.value ∙ attributes.2.are) c.push_imms.ensures.read))
