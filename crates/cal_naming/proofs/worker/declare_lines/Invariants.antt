use Rattle.std.proofs.Common.{◌≡◌, length, take}
use Rattle.cal_names.specs.Kept.{IsNameSeat, plan_of}
use Rattle.cal_naming.specs.Told.{HasDeclared}
use Rattle.cal_once.specs.Seats.{view}
use Rattle.cal_naming.proofs.worker.declare_lines.Given as goal

-- the lines so far are declared
abbrev pub invariant-loop-at : goal.invariant-loop-at
invariant-loop-at l = record {
  seat : IsNameSeat l.names l.seat;
  number : (view l.seat).number ≡ (view l.fn.seat).number;
  many : length l.answers ≡ length l.lines;
  declared : HasDeclared (plan_of l.names) (view l.seat) (take l.at l.lines)
      (take l.at l.answers);
}
