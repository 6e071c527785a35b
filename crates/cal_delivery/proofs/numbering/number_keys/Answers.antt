use Rattle.std.proofs.Common.{sym, subst, ◌∙◌}
use Rattle.std.specs.List.{All}
use Rattle.cal_delivery.proofs.KeyNumbers.{all_items, each_list}
use Rattle.cal_delivery.specs.KeyNodes.{nodes_of}
use Rattle.cal_nodes.specs.Numbers.{CanNumber, IsNumbered}
use Rattle.cal_delivery.proofs.numbering.number_keys.Goals as goal

pub number_all-requires-clause-nodes : goal.number_all-requires-clause-nodes
number_all-requires-clause-nodes c =
    let can = CanNumber c.args.tree.now c.args.seat.now c.args.context.now in
    subst (All can) (sym (c.deref.ensures.value ∙ c.in_ok-all.ensures))
    (all_items nodes_of can c.args.keys.now c.requires.keys)

pub returns-clause-keys : goal.returns-clause-keys
returns-clause-keys c =
    let numbered = IsNumbered c.number_all.new.self in
    each_list nodes_of numbered c.args.keys.now
    (subst (All numbered) (c.deref.ensures.value ∙ c.in_ok-all.ensures)
    c.in_ok-number_all.ensures.all)
