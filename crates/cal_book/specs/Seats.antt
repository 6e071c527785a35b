use Rattle.std.specs.Prelude.{◌≡◌, ℕ, Some}
use Rattle.atomic_table.specs.declared.shared.Seat.{Seat}
use Rattle.cal_book.specs.declared.cell.FlushCell.{FlushCell}
use Rattle.cal_book.specs.declared.seat.FlushSeat.{FlushSeat}
use Rattle.cal_book.specs.declared.content.Content.{Content}
use Rattle.cal_book.specs.declared.view.View.{View}

module _ {T Q : Type 0} where
  -- what a seat knows
  abbrev pub view : FlushSeat T Q → View T Q
  view seat = seat.seat.me.0

  -- for how many threads a cell was made, and the shape of its tables
  abbrev pub threads_of : FlushCell T Q → ℕ
  threads_of cell = cell.threads

  abbrev pub shape_of : FlushCell T Q → Q
  shape_of cell = cell.table.shared.key

  -- the seat is one of this cell's: the cell and it, or the one that it was split from, come from
  -- one `new`
  pub record IsAt (cell : FlushCell T Q) (seat : Seat (Content T) (View T Q)) : Type 0 where
    pub table : seat.table_id ≡ cell.table.shared.table_id
    pub shape : seat.me.0.shape ≡ Some (shape_of cell)

  abbrev pub IsSeatOf : FlushCell T Q → FlushSeat T Q → Type 0
  IsSeatOf cell seat = IsAt cell seat.seat
