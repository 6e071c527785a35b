use Rattle.std.proofs.Common.{ℕ, ◌<◌, get_or}
use Rattle.cal_board.specs.declared.opened.Slot.{Slot}
use Rattle.cal_board.proofs.slots.find.Given as goal

-- the slots so far have smaller numbers
abbrev pub invariant-loop-place : goal.invariant-loop-place
invariant-loop-place g l = (i : ℕ) (d : Slot g.row.V.Denot) → i < l.place → (get_or l.slots i d).number < l.number
