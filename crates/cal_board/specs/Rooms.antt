-- How much memory there is for slots (private).
use Rattle.std.specs.Prelude.{ℕ, ◌+◌, ◌≤◌, List, length, vec_capacity}
use Rattle.std.specs.Global.{Vec}
use Rattle.cal_board.specs.Slots.{AreOrdered}
use Rattle.cal_board.specs.declared.opened.Opened.{Opened}
use Rattle.cal_board.specs.declared.opened.Slot.{Slot}

-- The slots that hold values are in order, and there is memory for so many, with the spare ones.
pub record HaveRoom {V : Type 0} (room : ℕ) (held : Vec (Slot V)) (left : Vec (List (Opened V)))
    : Type 0 where
  pub ordered : AreOrdered held.items
  pub slots : room ≤ vec_capacity held
  pub spare : room ≤ vec_capacity left
  pub all : room ≤ length held.items + length left.items
