use Rattle.cal_treefmt.proofs.Walking.{HasNodes-none}
use Rattle.cal_treefmt.proofs.nodes.Nodes.of_numbered.Goals as goal

pub add_numbered-requires-clause-nodes : goal.add_numbered-requires-clause-nodes
add_numbered-requires-clause-nodes c = HasNodes-none _ c.seeded-context.ensures
