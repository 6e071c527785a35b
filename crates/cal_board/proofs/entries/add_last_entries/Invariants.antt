use Rattle.std.proofs.Common.{◌≡◌, ◌++◌, take}
use Rattle.cal_board.specs.PathBoards.{last_entries}
use Rattle.cal_board.proofs.entries.add_last_entries.Given as goal

abbrev pub invariant-loop-slot : goal.invariant-loop-slot
invariant-loop-slot l = l.out.items ≡ l.fn.out.items ++ last_entries l.attrs (take l.slot-index l.slots)
