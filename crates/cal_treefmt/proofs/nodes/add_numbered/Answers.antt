use Rattle.std.proofs.Common.{◌≡◌, ◌+◌, ◌<◌, List, filter, get_or, length, map, sym, subst, take, arith}
use Rattle.std.proofs.lemmas.List.{get_or_default, take_all}
use Rattle.std.specs.List.{All}
use Rattle.cal_value.specs.Flat.{joined}
use Rattle.cal_value.specs.declared.attribute.Entry.{Entry}
use Rattle.cal_value.specs.declared.record.Rec.{Rec}
use Rattle.cal_context.specs.declared.numbers.NodeNumber.{NodeNumber}
use Rattle.cal_context.specs.Snapshots.{IsBelowRoot}
use Rattle.cal_context.specs.Tree.{Tree, path_at}
use Rattle.cal_rowset.specs.Hierarchy.{hierarchy, is_of_hierarchy}
use Rattle.cal_rowset.specs.NumberedRows.{in_order, meant, nth_numbered}
use Rattle.cal_rowset.proofs.NumberedLemmas.{in_order-counted, nth_in_order, nth_within}
use Rattle.cal_treefmt.specs.Walks.{AreAt, HasNodes, Walks}
use Rattle.cal_treefmt.proofs.Walking.{AreAt-more, AreAt-none, HasNodes-more}
use Rattle.cal_treefmt.proofs.WayLemmas.{root}
use Rattle.cal_treefmt.proofs.nodes.add_numbered.Goals as goal

-- the entries of the hierarchy on the paths of nodes
abbrev nested_in : Tree → List NodeNumber → List Entry
nested_in t ns = filter (λ e. is_of_hierarchy e.attr) (joined (map (path_at t) ns))

pub loop-place-init : goal.loop-place-init
loop-place-init c = record {
  ways = c.in_ok-ways.ensures c.args.context.now;
  has = c.requires.nodes;
  at = AreAt-none _ _ c.in_ok-of_rows.ensures.items;
}

pub add_row-requires-clause-within : goal.add_row-requires-clause-within
add_row-requires-clause-within c =
    subst (λ (ns : List NodeNumber). All (IsBelowRoot c.args.numbers.now) ns) (sym c.nodes.ensures)
    (nth_within c.args.numbers.now c.args.rows.now _ c.requires.within).nodes

pub loop-place-preserved : goal.loop-place-preserved
loop-place-preserved c =
    let place = get_or c.args.order.now c.loop-place.place-index 0 in
    let rows : List Rec = map (meant c.args.numbers.now) (in_order c.args.rows.now c.args.order.now) in
    let row : Rec = meant c.args.numbers.now (nth_numbered c.args.rows.now place) in
    let within : c.loop-place.place-index < length rows = omega (arith, in_order-counted c.args.numbers.now c.args.rows.now c.args.order.now, c.loop-place-test.true) in
    let is : row ≡ get_or rows c.loop-place.place-index row = nth_in_order c.args.numbers.now c.args.rows.now c.args.order.now c.loop-place.place-index place row c.loop-place-test.true
    (get_or_default c.args.order.now c.loop-place.place-index 0 place c.loop-place-test.true) in
    let walks : Walks c.loop-place.context c.add_row.new.nodes root (hierarchy row) c.in_ok-node.node =
    subst (λ (ns : List NodeNumber). Walks c.loop-place.context c.add_row.new.nodes root (nested_in c.args.numbers.now ns) c.in_ok-node.node) c.nodes.ensures
    c.in_ok-node.ensures.walks in
    record {
      ways = c.in_ok-node.ensures.ways;
      has = HasNodes-more c.loop-place.context c.add_row.new.nodes rows c.loop-place.place-index row c.in_ok-node.node within is walks c.loop-place.invariant.has;
      at = subst (λ (numbers : List NodeNumber). AreAt c.add_row.new.nodes numbers (map hierarchy (take (c.loop-place.place-index + 1) rows))) (sym c.in_ok-push.ensures.items)
          (AreAt-more c.loop-place.context c.add_row.new.nodes rows c.loop-place.place-index row c.in_ok-node.node within is
          walks c.loop-place.invariant.has c.loop-place.of_rows.items c.loop-place.invariant.at);
    }

pub returns-clause-nodes : goal.returns-clause-nodes
returns-clause-nodes c =
    let rows : List Rec = map (meant c.args.numbers.now) (in_order c.args.rows.now c.args.order.now) in
    subst (λ (rows : List Rec). HasNodes c.loop-place.context rows)
    (take_all c.loop-place.place-index rows (omega (arith, in_order-counted c.args.numbers.now c.args.rows.now c.args.order.now, c.loop-place-test.false))) c.loop-place.invariant.has

pub returns-clause-of_rows : goal.returns-clause-of_rows
returns-clause-of_rows c =
    let rows : List Rec = map (meant c.args.numbers.now) (in_order c.args.rows.now c.args.order.now) in
    subst (λ (rows : List Rec). AreAt c.loop-place.context c.loop-place.of_rows.items (map hierarchy rows))
    (take_all c.loop-place.place-index rows (omega (arith, in_order-counted c.args.numbers.now c.args.rows.now c.args.order.now, c.loop-place-test.false))) c.loop-place.invariant.at
