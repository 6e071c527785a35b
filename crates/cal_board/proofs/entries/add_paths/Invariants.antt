use Rattle.std.proofs.Common.{◌≡◌, ◌++◌, take}
use Rattle.cal_board.specs.PathBoards.{entries_of}
use Rattle.cal_board.proofs.entries.add_paths.Given as goal

abbrev pub invariant-loop-slot : goal.invariant-loop-slot
invariant-loop-slot l = l.out.items ≡ l.fn.out.items ++ entries_of l.attrs (take l.slot-index l.slots)
