use Rattle.std.proofs.Common.{rules, ◌∙◌, ap, map, subst}
use Rattle.std.proofs.lemmas.List.Sorted.{All-permutation}
use Rattle.cal_keys.specs.TakenImms.{IsTakenIn, taken_entry}
use Rattle.cal_keys.specs.Leading.{Leads}
use Rattle.cal_keys.proofs.ImmLemmas.{in_order_by}
use Rattle.cal_keys.proofs.key_imms.key_imms.Goals as goal

pub step_all-requires : goal.step_all-requires
step_all-requires c =
    rw c.deref.ensures.value
    (All-permutation (IsTakenIn c.args.context.now) c.in_ok-taken.taken.items c.sort_by_key.new.self.items c.sort_by_key.ensures.permutation
    (c.in_ok-taken.ensures.within c.args.context.now c.requires))

pub returns-clause-leads : goal.returns-clause-leads
returns-clause-leads c = λ t names ready.
    subst (λ es. Leads c.step_all.new.own es c.in_ok-node.node)
    (ap (map (taken_entry c.args.context.now)) c.deref.ensures.value
    ∙ in_order_by c.args.context.now names c.args.imms.now c.in_ok-taken.taken.items c.sort_by_key.new.self.items
    (c.in_ok-taken.ensures.taken c.args.context.now names (record { are = ready.is.takers; all = ready.attributes }) c.requires)
    c.sort_by_key.ensures.permutation c.in_ok-sort_by_key.ensures.sorted c.sort_by_key.ensures.stable (λ a r q k. search rules))
    c.in_ok-node.ensures.leads
