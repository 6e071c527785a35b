use Rattle.std.proofs.Common.{nat_eq}
use Rattle.indexmap.specs.IndexMap.{get}
use Rattle.cal_read.specs.InTurn.{in_turn_at}
use Rattle.cal_read.proofs.InTurnLemmas.{node_there}
use Rattle.cal_read.proofs.nodes.Nodes.node.Goals as goal

pub returns-in-Some : goal.returns-in-Some
returns-in-Some c =
    let nodes = c.args.self.now in
    let it = node_there (in_turn_at nodes.in_turn c.args.id) (get nat_eq nodes.map c.args.id) c.in-Some.node c.in-Some.ensures in
    record { held = it.0; there = it.1; node_is = it.2 }
