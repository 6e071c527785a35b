use Rattle.cal_treefmt.proofs.Walking.{HasNodes-none}
use Rattle.cal_treefmt.proofs.nodes.Nodes.of_owned.Goals as goal

pub add_rows-requires : goal.add_rows-requires
add_rows-requires c = HasNodes-none _ c.new-context.ensures
