use Rattle.std.proofs.Common.{◌<◌, length, sym, subst, add-one}
use Rattle.cal_context.proofs.LinkLemmas.{adds_child, grows_by_child, whole_by_child}
use Rattle.cal_context.proofs.context.Context.child.Goals as goal

pub invariant_of-self-in-Ok-1 : goal.invariant_of-self-in-Ok-1
invariant_of-self-in-Ok-1 c =
    let hp = subst (λ t. c.args.parent.0 < length t.paths) (sym c.self.view_is) c.requires.parent in
    let ha = subst (λ t. c.args.attribute.0 < length t.attributes) (sym c.self.view_is) c.requires.attribute in
    whole_by_child c.self.invariant c.args.parent c.args.attribute c.args.value.now (record { 0 = c.in_ok-intern_copy.field-0 })
    c.in-Ok.index c.in_ok-intern_copy.ensures.interned c.in-Ok.ensures.interned hp ha

pub returns-clause-added : goal.returns-clause-added
returns-clause-added c =
    let hp = subst (λ t. c.args.parent.0 < length t.paths) (sym c.self.view_is) c.requires.parent in
    let ha = subst (λ t. c.args.attribute.0 < length t.attributes) (sym c.self.view_is) c.requires.attribute in
    rw (sym c.self.view_is) (rw (add-one c.in-Ok.index)
    (adds_child c.self.invariant c.args.parent c.args.attribute c.args.value.now (record { 0 = c.in_ok-intern_copy.field-0 })
    c.in-Ok.index c.in_ok-intern_copy.ensures.interned c.in-Ok.ensures.interned hp ha))

pub returns-clause-grows : goal.returns-clause-grows
returns-clause-grows c =
    let hp = subst (λ t. c.args.parent.0 < length t.paths) (sym c.self.view_is) c.requires.parent in
    let ha = subst (λ t. c.args.attribute.0 < length t.attributes) (sym c.self.view_is) c.requires.attribute in
    rw (sym c.self.view_is)
    (grows_by_child c.self.invariant c.args.parent c.args.attribute c.args.value.now (record { 0 = c.in_ok-intern_copy.field-0 })
    c.in-Ok.index c.in_ok-intern_copy.ensures.interned c.in-Ok.ensures.interned hp ha)
