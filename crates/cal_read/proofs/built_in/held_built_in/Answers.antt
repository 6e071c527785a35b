use Rattle.std.proofs.Common.{Some, sym, ap, ◌∙◌, subst}
use Rattle.std.proofs.lemmas.Result.{IfOk-weaker}
use Rattle.cal_value.specs.Kinds.{kind_node}
use Rattle.cal_value.specs.declared.variant.Variant.TheVariants as value
use Rattle.cal_context.proofs.CallerLemmas.{Grows-trans}
use Rattle.cal_read.specs.BuiltIn.{node_of_built_in, node_of_kind}
use Rattle.cal_read.specs.Held.{IsAt}
use Rattle.cal_read.specs.Nodes.{steps_to}
use Rattle.cal_read.proofs.HeldLemmas.{added_attribute, IsAt-Grows}
use Rattle.cal_read.proofs.built_in.held_built_in.Goals as goal

pub returns-clause-held : goal.returns-clause-held
returns-clause-held c =
    IfOk-weaker c.held_there.result _ _ (λ held is. is (node_of_built_in c.args.attribute) (record {
      above = IsAt-Grows c.in_ok-attribute-2.ensures.grows c.in_ok-above.field-0.place _
          (subst (λ k. IsAt c.held_kind.new.context c.in_ok-above.field-0.place (steps_to (node_of_kind k))) c.kind.ensures c.in_ok-above.ensures.held.at);
      attribute = sym c.in_ok-attribute.ensures ∙ sym (added_attribute c.held_kind.new.context c.attribute-2.new.self c.in_ok-attribute.field-0 c.in_ok-attribute-2.field-0 c.in_ok-attribute-2.ensures.added).1;
      id = sym c.id-2.ensures;
      value = ap value.Text (sym (c.in_ok-from_str.ensures ∙ c.name.ensures));
      parent = ap (λ k. Some (kind_node k)) (sym c.kind-2.ensures) ∙ ap Some (sym c.node.ensures);
    })) c.held_there.ensures.held

pub returns-in_err-attribute-2-clause-grows : goal.returns-in_err-attribute-2-clause-grows
returns-in_err-attribute-2-clause-grows c = Grows-trans _ _ _ c.held_kind.ensures.grows c.attribute-2.ensures.grows

pub returns-in_err-from_str-clause-grows : goal.returns-in_err-from_str-clause-grows
returns-in_err-from_str-clause-grows c = Grows-trans _ _ _ c.held_kind.ensures.grows c.attribute-2.ensures.grows

pub returns-clause-grows : goal.returns-clause-grows
returns-clause-grows c = Grows-trans _ _ _ c.held_kind.ensures.grows (Grows-trans _ _ _ c.attribute-2.ensures.grows c.held_there.ensures.grows)
