use Rattle.std.proofs.Common.{ℕ, ◌+◌, List, sym, subst, take}
use Rattle.std.proofs.lemmas.List.{take_all}
use Rattle.cal_context.specs.declared.numbers.NodeNumber.{NodeNumber}
use Rattle.cal_write.specs.SnapshotNeeds.{NeedsNodes}
use Rattle.cal_write.proofs.RecordLemmas.{no-nodes, nodes-more}
use Rattle.cal_write.proofs.snapshot_needs.need_nodes.Goals as goal

pub loop-node-init : goal.loop-node-init
loop-node-init c =
    subst (λ (l : List ℕ). NeedsNodes c.args.context.now c.args.writer.now c.args.writer.now (take 0 c.args.nodes.now) l) (sym c.clear.ensures.items) (no-nodes c.args.context.now c.args.writer.now)

pub loop-node-preserved : goal.loop-node-preserved
loop-node-preserved c =
    subst (λ (l : List ℕ). NeedsNodes c.args.context.now c.args.writer.now c.node_id.new.self (take (c.loop-node.node-index + 1) c.args.nodes.now) l) (sym c.in_ok-push_some.ensures)
    (nodes-more c.args.context.now c.args.writer.now c.loop-node.writer c.node_id.new.self c.args.nodes.now c.loop-node.ids.items c.loop-node.node-index _ c.in_ok-id.id
    c.loop-node-test.true c.loop-node.invariant c.in_ok-id.ensures)

pub returns : goal.returns
returns c =
    subst (λ (l : List NodeNumber). NeedsNodes c.args.context.now c.args.writer.now c.loop-node.writer l c.loop-node.ids.items)
    (take_all c.loop-node.node-index c.args.nodes.now c.loop-node-test.false) c.loop-node.invariant
