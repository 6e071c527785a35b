use Rattle.std.proofs.Common.{sym, ◌∙◌, refl}
use Rattle.std.proofs.lemmas.Result.{IfOk-weaker}
use Rattle.cal_context.proofs.CallerLemmas.{Grows-trans}
use Rattle.cal_read.specs.BuiltIn.{node_of_kind}
use Rattle.cal_read.proofs.HeldLemmas.{added_attribute}
use Rattle.cal_read.proofs.built_in.held_kind.Goals as goal

pub returns-clause-held : goal.returns-clause-held
returns-clause-held c =
    IfOk-weaker c.held_there.result _ _ (λ held is. is (node_of_kind c.args.kind) (record {
      above = c.root.ensures;
      attribute = sym c.in_ok-attribute.ensures ∙ sym (added_attribute c.args.context.now c.attribute-2.new.self c.in_ok-attribute.field-0 c.in_ok-attribute-2.field-0 c.in_ok-attribute-2.ensures.added).1;
      id = sym c.id.ensures;
      value = refl;
      parent = refl;
    })) c.held_there.ensures.held

pub returns-clause-grows : goal.returns-clause-grows
returns-clause-grows c = Grows-trans _ _ _ c.attribute-2.ensures.grows c.held_there.ensures.grows
