use Rattle.std.proofs.Common.{List, map, sym, subst, take, ◌+◌}
use Rattle.std.proofs.lemmas.List.{take_all}
use Rattle.cal_value.specs.declared.record.Rec.{Rec}
use Rattle.cal_context.specs.declared.numbers.NodeNumber.{NodeNumber}
use Rattle.cal_rowset.specs.Hierarchy.{hierarchy}
use Rattle.cal_treefmt.specs.Walks.{AreAt, HasNodes}
use Rattle.cal_treefmt.proofs.Walking.{AreAt-more, AreAt-none, HasNodes-more}
use Rattle.cal_treefmt.proofs.nodes.add_rows.Goals as goal

pub loop-row-init : goal.loop-row-init
loop-row-init c = record {
  has = c.requires;
  at = AreAt-none _ _ c.in_ok-of_rows.ensures.items;
}

pub loop-row-preserved : goal.loop-row-preserved
loop-row-preserved c = record {
  has = HasNodes-more c.loop-row.context c.add_row.new.context c.args.rows.now c.loop-row.row-index c.row-item.result c.in_ok-node.node c.loop-row-test.true c.row-item.is
      c.in_ok-node.ensures c.loop-row.invariant.has;
  at = subst (λ (numbers : List NodeNumber). AreAt c.add_row.new.context numbers (map hierarchy (take (c.loop-row.row-index + 1) c.args.rows.now))) (sym c.in_ok-push.ensures.items)
      (AreAt-more c.loop-row.context c.add_row.new.context c.args.rows.now c.loop-row.row-index c.row-item.result c.in_ok-node.node c.loop-row-test.true c.row-item.is
      c.in_ok-node.ensures c.loop-row.invariant.has c.loop-row.of_rows.items c.loop-row.invariant.at);
}

pub returns-clause-nodes : goal.returns-clause-nodes
returns-clause-nodes c =
    subst (λ (rows : List Rec). HasNodes c.loop-row.context rows) (take_all c.loop-row.row-index c.args.rows.now c.loop-row-test.false) c.loop-row.invariant.has

pub returns-clause-of_rows : goal.returns-clause-of_rows
returns-clause-of_rows c =
    subst (λ (rows : List Rec). AreAt c.loop-row.context c.loop-row.of_rows.items (map hierarchy rows)) (take_all c.loop-row.row-index c.args.rows.now c.loop-row-test.false) c.loop-row.invariant.at
