use Rattle.std.proofs.Common.{◌<◌, List, length, sym, subst}
use Rattle.std.specs.List.{All}
use Rattle.cal_context.specs.Snapshots.{IsBelowRoot}
use Rattle.cal_context.specs.declared.numbers.NodeNumber.{NodeNumber}
use Rattle.cal_context.specs.declared.snapshot.Immediate.{Immediate}
use Rattle.cal_rowset.proofs.NumberedLemmas.{nth_within}
use Rattle.cal_engine.proofs.snapshot_order.value_at.Goals as goal

pub find_among-requires-clause-nodes : goal.find_among-requires-clause-nodes
find_among-requires-clause-nodes c =
    subst (λ (ns : List NodeNumber). All (IsBelowRoot c.args.context.now) ns) (sym c.nodes.ensures)
    (nth_within c.args.context.now c.args.rows.now c.args.place c.requires.rows).nodes

pub find_among-requires-clause-imms : goal.find_among-requires-clause-imms
find_among-requires-clause-imms c =
    subst (λ (is : List Immediate). All (λ (i : Immediate). i.attribute.0 < length c.args.context.now.attributes) is) (sym c.imms.ensures)
    (nth_within c.args.context.now c.args.rows.now c.args.place c.requires.rows).imms
