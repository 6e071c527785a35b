use Rattle.std.proofs.Common.{List, map, subst}
use Rattle.std.specs.Prelude.{OnOk}
use Rattle.cal_context.specs.Tree.{path_at}
use Rattle.cal_context.specs.declared.numbers.NodeNumber.{NodeNumber}
use Rattle.cal_run.specs.Holding.{HoldsPaths}
use Rattle.cal_run.proofs.paths.HeldNodes.add_held.Goals as goal

pub returns : goal.returns
returns c =
    let t = c.args.context.now in
    subst (λ (ns : List NodeNumber). OnOk c.add_nodes.result (HoldsPaths t t
    c.args.self.now.nodes c.add_nodes.new.held (map (path_at t) ns)))
    c.as_slice.ensures.items c.add_nodes.ensures
