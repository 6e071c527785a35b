use Rattle.std.proofs.Common.{◌≡◌, map, take}
use Rattle.cal_board.specs.PathBoards.{entry_in}
use Rattle.cal_board.proofs.entries.path_of.Given as goal

abbrev pub invariant-loop-value : goal.invariant-loop-value
invariant-loop-value l = l.path.items ≡ map (entry_in l.attrs) (take l.value-index l.opened)
