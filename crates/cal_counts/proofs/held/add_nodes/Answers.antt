use Rattle.std.proofs.Common.{List, map, subst}
use Rattle.std.proofs.lemmas.List.{take_all}
use Rattle.cal_context.specs.Tree.{path_at}
use Rattle.cal_context.specs.declared.numbers.NodeNumber.{NodeNumber}
use Rattle.cal_run.specs.Holding.{HoldsPaths}
use Rattle.cal_run.proofs.PathLemmas.{holds-node, holds-node_more}
use Rattle.cal_counts.proofs.held.add_nodes.Goals as goal

pub loop-node-preserved : goal.loop-node-preserved
loop-node-preserved c =
    let t = c.args.context.now in
    let i = c.loop-node.node-index in
    let below = c.loop-node-test.true in
    holds-node_more t c.args.held.now c.loop-node.held c.intern.new.self c.args.nodes.now i _ below
    c.loop-node.invariant
    (holds-node t c.loop-node.held c.intern.new.self _ (c.requires i _ below)
    c.in_ok-intern.ensures.interned.adds)

pub returns : goal.returns
returns c =
    let t = c.args.context.now in
    subst (λ (ns : List NodeNumber). HoldsPaths t t c.args.held.now c.loop-node.held
    (map (path_at t) ns))
    (take_all c.loop-node.node-index c.args.nodes.now c.loop-node-test.false)
    c.loop-node.invariant
