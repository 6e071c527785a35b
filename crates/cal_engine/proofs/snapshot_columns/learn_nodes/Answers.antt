use Rattle.std.proofs.Common.{get_or, map, ap, ◌∙◌, arith}
use Rattle.cal_context.specs.Tree.{attribute_at}
use Rattle.cal_engine.specs.Learning.{learned, plain_names}
use Rattle.cal_engine.proofs.Visiting.{learned_more, learned_trail, met_learned}
use Rattle.cal_engine.proofs.snapshot_columns.learn_nodes.Goals as goal

pub loop-node-preserved : goal.loop-node-preserved
loop-node-preserved c =
    let t = c.args.context.now in
    let inv = c.loop-node.invariant in
    let old = c.loop-node.visits in
    let new = c.visit.new.self in
    let nodes = c.args.nodes.now in
    let n = c.loop-node.node-index in
    let node = get_or nodes n (record { 0 = 0 }) in
    let visit = c.in_ok-visit.ensures in
    let before = c.loop-node.shown.names.keys in
    let learns = c.in_ok-learn_trail.ensures.learned ∙ ap (λ trail. learned before (plain_names (map (attribute_at t) trail))) c.deref.ensures.value in
    record {
      knows = c.in_ok-learn_trail.ensures.knows;
      met = met_learned t old new node c.in_ok-visit.field-0 visit before inv.met _ learns;
      names = learned_more t nodes n (record { 0 = 0 }) c.args.shown.now.names.keys before _ (omega arith) inv.names
          (learns ∙ learned_trail t old new node c.in_ok-visit.field-0 visit before inv.met);
    }
