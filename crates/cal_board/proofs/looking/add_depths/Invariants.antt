use Rattle.std.proofs.Common.{◌≡◌, ◌+◌, ◌≤◌, ◌++◌, take}
use Rattle.cal_board.specs.Blackboard.{own_depths}
use Rattle.cal_board.proofs.looking.add_depths.Given as goal

-- the depths of the slots so far were written
abbrev pub invariant-loop-slot : goal.invariant-loop-slot
invariant-loop-slot g l = record {
  behind : l.from ≤ l.count;
  within : l.count ≤ l.from + l.slot-index;
  added : take l.count l.out ≡ take l.from l.fn.out ++ own_depths (take l.slot-index l.slots);
}
