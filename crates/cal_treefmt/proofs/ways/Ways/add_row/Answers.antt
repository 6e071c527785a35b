use Rattle.std.proofs.Common.{◌<◌, length, map, refl, sym, subst, arith}
use Rattle.cal_context.specs.Tree.{path_at}
use Rattle.cal_context.specs.declared.numbers.NodeNumber.{NodeNumber}
use Rattle.cal_treefmt.proofs.Walking.{Walks-path}
use Rattle.cal_treefmt.proofs.WayLemmas.{path-is, path-within, root}
use Rattle.cal_treefmt.proofs.ways.Ways.add_row.Goals as goal

pub go-requires-clause-node : goal.go-requires-clause-node
go-requires-clause-node c =
    let node = c.node_at-node.result.now in
    subst (λ (n : NodeNumber). n.0 < length c.args.context.now.paths) (sym c.node_at-node.ensures)
    (c.requires.within c.loop-place.place node (omega (arith, c.loop-place-test.true))).within

pub loop-place-preserved : goal.loop-place-preserved
loop-place-preserved c =
    let t = c.args.context.now in
    let nodes = c.args.row.now in
    let i = c.loop-place.place in
    let node = c.node_at-node.result.now in
    record {
      ways = c.in_ok-at.ensures.ways;
      walks = Walks-path c.args.nodes.now c.loop-place.nodes c.go.new.nodes root c.loop-place.at c.in_ok-at.at (map (path_at t) nodes) i (path_at t node)
          (path-within t nodes nodes i refl c.loop-place-test.true)
          (path-is t nodes nodes i node refl c.loop-place-test.true c.node_at-node.ensures)
          c.loop-place.invariant.walks c.in_ok-at.ensures.walks;
    }
