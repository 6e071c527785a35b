use Rattle.std.proofs.Common.{map, take}
use Rattle.cal_value.specs.Flat.{joined}
use Rattle.cal_context.specs.Tree.{path_at}
use Rattle.cal_rowset.specs.Rooms.{AddsPath}
use Rattle.cal_rowset.proofs.shown_row.ShownRow.add_nodes.Given as goal

-- the paths so far are added
abbrev pub invariant-loop-node : goal.invariant-loop-node
invariant-loop-node l = AddsPath l.context l.fn.self l.self (joined (map (path_at l.context) (take l.node-index l.nodes)))
