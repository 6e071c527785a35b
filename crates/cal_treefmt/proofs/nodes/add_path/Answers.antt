use Rattle.std.proofs.Common.{List, filter, subst}
use Rattle.std.proofs.lemmas.List.{take_all}
use Rattle.cal_value.specs.declared.attribute.Entry.{Entry}
use Rattle.cal_treefmt.specs.Walks.{Walks}
use Rattle.cal_treefmt.proofs.Walking.{Walks-more, Walks-none, nested}
use Rattle.cal_treefmt.proofs.nodes.add_path.Goals as goal

pub loop-entry-init : goal.loop-entry-init
loop-entry-init c = Walks-none c.args.context.now c.args.from c.requires

pub add_entry-requires : goal.add_entry-requires
add_entry-requires c = c.loop-entry.invariant.within

pub loop-entry-preserved : goal.loop-entry-preserved
loop-entry-preserved c =
    Walks-more c.args.context.now c.loop-entry.context c.add_entry.new.context c.args.from c.loop-entry.node c.in_ok-node.node c.args.path.now
    c.loop-entry.entry-index c.entry-item.result c.loop-entry-test.true c.entry-item.is c.loop-entry.invariant c.in_ok-node.ensures

pub returns : goal.returns
returns c =
    subst (λ (path : List Entry). Walks c.args.context.now c.loop-entry.context c.args.from (filter nested path) c.loop-entry.node)
    (take_all c.loop-entry.entry-index c.args.path.now c.loop-entry-test.false) c.loop-entry.invariant
