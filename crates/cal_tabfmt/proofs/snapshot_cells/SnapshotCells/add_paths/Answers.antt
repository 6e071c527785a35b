use Rattle.std.proofs.Common.{◌≡◌, ◌<◌, ◌∷◌, length, subst, All}
use Rattle.std.proofs.lemmas.List.Elements.{All-head}
use Rattle.std.proofs.lemmas.Result.{on_ok_weaker}
use Rattle.cal_context.specs.declared.numbers.NodeNumber.{NodeNumber}
use Rattle.cal_tabfmt.proofs.StandLemmas.{filled-paths}
use Rattle.cal_tabfmt.proofs.snapshot_cells.SnapshotCells.add_paths.Goals as goal

pub returns-in_ok-go-in-Some : goal.returns-in_ok-go-in-Some
returns-in_ok-go-in-Some c =
    let list : c.args.nodes.now ≡ c.in-Some.first.now ∷ c.in-Some.others.now = c.in-Some.ensures.cases.0 in
    let P : NodeNumber → Type 0 = λ n. n.0 < length c.args.context.now.paths in
    on_ok_weaker c.add_nodes.result
    (λ added knowing. let at = c.in_ok-go-in-Some.ensures.stand knowing in
    filled-paths c.args.context.now c.go.new.self c.add_nodes.new.trail c.add_nodes.new.links c.in-Some.first.now c.args.nodes.now c.in-Some.others.now c.has_each_once.ensures
    (All-head P c.in-Some.first.now c.in-Some.others.now (subst (All P) list c.requires.nodes)) at
    c.in_ok-go-in-Some.ensures.node list c.add_nodes.ensures.names (added _ (rw c.deref.ensures.value at.places) at.stand.trail))
    c.add_nodes.ensures.added
