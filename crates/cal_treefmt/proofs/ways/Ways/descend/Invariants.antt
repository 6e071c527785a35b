use Rattle.std.proofs.Common.{length}
use Rattle.cal_treefmt.proofs.WayLemmas.{IsDescending}
use Rattle.cal_treefmt.proofs.ways.Ways.descend.Given as goal

abbrev pub invariant-loop-next : goal.invariant-loop-next
invariant-loop-next l = IsDescending l.context l.fn.nodes l.nodes l.self l.from l.fn.node l.at

abbrev pub decreases-loop-next : goal.decreases-loop-next
decreases-loop-next l = length l.self.left.items
