use Rattle.std.proofs.Common.{◌<◌, ap, sym, subst, ◌∙◌, arith, length, None}
use Rattle.std.proofs.Common.{get_or}
use Rattle.std.specs.List.{last_or}
use Rattle.cal_context.specs.Tree.{path_at}
use Rattle.cal_context.specs.declared.numbers.NodeNumber.{NodeNumber}
use Rattle.cal_filter.specs.Known.{IsNearest, KnowsAll, sought}
use Rattle.cal_filter.proofs.Finding.{is_root, isnt_root, node_none, node_some}
use Rattle.cal_filter.proofs.Seeking.{root}
use Rattle.cal_filter.proofs.Zips.{get_or-inside}
use Rattle.cal_filter.proofs.seeker.Seeker.last_node.Goals as goal
use Rattle.cal_filter.proofs.seeker.Seeker.last_node.Goals.{then-ne, else-ne}

pub loop-node-preserved : goal.loop-node-preserved
loop-node-preserved c =
    let n = get_or c.args.nodes.now c.loop-node.node-index root in
    let short : c.loop-node.node-index < length c.args.nodes.now = omega arith in
    let near = λ (k : KnowsAll c.args.context.now c.args.self.now).
    subst (IsNearest c.args.context.now (sought c.args.self.now) n) (sym c.nearest-nearest.ensures)
    (k.knows.nodes n
    (omega (arith, (c.requires c.loop-node.node-index root short).within, k.nodes))) in
    elim c.if-ne.branch [
      | then-ne w ↦ record {
        within = λ k. subst (λ (m : NodeNumber). m.0 < length c.args.context.now.paths)
            (sym w.last-is) (near k).other_within;
        last = λ k.
            node_some c.args.context.now (sought c.args.self.now) c.has_each_once.ensures
            c.args.nodes.now c.loop-node.node-index n c.nearest-nearest.result c.loop-node.last short
            (get_or-inside c.args.nodes.now c.loop-node.node-index root n short)
            (near k) (c.loop-node.invariant.last k)
            (isnt_root c.nearest-nearest.result c.ne.result c.ne.ensures w.if-ne.true)
            ∙ sym (ap (λ m. last_or None (path_at c.args.context.now m)) w.last-is);
      }
      | else-ne w ↦ record {
        within = λ k. subst (λ (m : NodeNumber). m.0 < length c.args.context.now.paths)
            (sym w.last-is) (c.loop-node.invariant.within k);
        last = λ k.
            node_none c.args.context.now (sought c.args.self.now) c.has_each_once.ensures
            c.args.nodes.now c.loop-node.node-index n c.nearest-nearest.result c.loop-node.last short
            (get_or-inside c.args.nodes.now c.loop-node.node-index root n short)
            (near k) (c.loop-node.invariant.last k)
            (is_root c.nearest-nearest.result c.ne.result c.ne.ensures w.if-ne.false)
            ∙ sym (ap (λ m. last_or None (path_at c.args.context.now m)) w.last-is);
      }
    ]
