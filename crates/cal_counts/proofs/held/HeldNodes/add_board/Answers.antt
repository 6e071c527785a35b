use Rattle.std.proofs.Common.{◌≡◌, ◌<◌, List, ◌++◌, length, map, ap, subst, sym, ◌∙◌}
use Rattle.std.specs.List.{All}
use Rattle.std.proofs.lemmas.List.Elements.{All-weaker}
use Rattle.std.proofs.lemmas.Result.{on_ok_weaker}
use Rattle.cal_board.specs.Standing.{last_nodes}
use Rattle.cal_context.specs.Snapshots.{IsBelowRoot}
use Rattle.cal_context.specs.Tree.{path_at}
use Rattle.cal_context.specs.declared.numbers.NodeNumber.{NodeNumber}
use Rattle.cal_run.specs.Holding.{HoldsPaths}
use Rattle.cal_run.proofs.PathLemmas.{board-below, board-paths}
use Rattle.cal_counts.proofs.held.HeldNodes.add_board.Goals as goal

pub add_nodes-requires : goal.add_nodes-requires
add_nodes-requires c =
    let t = c.args.context.now in
    let board = c.args.board.now in
    let nodes : c.deref.result.now ≡ last_nodes board =
    c.deref.ensures.value ∙ c.in_ok-refs.ensures.ok
    ∙ ap (λ (ns : List NodeNumber). ns ++ last_nodes board) c.clear.ensures.items in
    let Within : NodeNumber → Type 0 = λ n. n.0 < length t.paths in
    All-weaker (IsBelowRoot t) Within (λ n is. is.within) _
    (subst (All (IsBelowRoot t)) (sym nodes)
    (board-below t c.args.script.now c.requires.numbered.named.front board c.requires.holds.0
    c.requires.holds.1 c.has_few_slots.ensures.references))

pub returns : goal.returns
returns c =
    let t = c.args.context.now in
    let board = c.args.board.now in
    let nodes : c.deref.result.now ≡ last_nodes board =
    c.deref.ensures.value ∙ c.in_ok-refs.ensures.ok
    ∙ ap (λ (ns : List NodeNumber). ns ++ last_nodes board) c.clear.ensures.items in
    on_ok_weaker c.add_nodes.result (λ adds b holds.
    subst (HoldsPaths t t c.args.self.now.nodes c.add_nodes.new.held)
    (ap (map (path_at t)) nodes
    ∙ board-paths t c.args.script.now c.requires.numbered.named.front board b holds
    c.has_few_slots.ensures.references) adds)
    c.add_nodes.ensures
