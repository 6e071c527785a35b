use Rattle.std.proofs.Common.{◌≡◌, List, Option, subst}
use Rattle.std.specs.List.{All}
use Rattle.cal_context.specs.declared.numbers.NodeNumber.{NodeNumber}
use Rattle.cal_nodes.specs.Numbers.{IsMet}
use Rattle.cal_nodes.proofs.context_nodes.ContextNodes.look_from.Goals as goal

pub look_ahead-requires-clause-nodes : goal.look_ahead-requires-clause-nodes
look_ahead-requires-clause-nodes c =
    let same : c.args.self.now ≡ c.deref.result.now = cc in
    subst (λ (ns : List (Option NodeNumber)). All (IsMet c.args.tree.now c.args.seat.now ns)
    c.args.nodes.now) same c.requires.nodes
