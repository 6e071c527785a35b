use Rattle.std.specs.Prelude.{◌≡◌, ℕ, ◌+◌, ◌<◌, ◌≤◌, Some}
use Rattle.atomic_table.specs.declared.shared.Seat.{Seat}
use Rattle.cal_once.specs.declared.rows.Rows.{Rows}
use Rattle.cal_once.specs.declared.seat.RowSeat.{RowSeat}
use Rattle.cal_once.specs.declared.view.View.{View}
use Rattle.cal_once.specs.declared.view.Plan.{Plan}
use Rattle.cal_once.specs.Layout.{size_in, arena_start}
use Rattle.cal_once.specs.Views.{Saw, Knows}

module _ {S : Type 0} where
  -- what a seat knows
  abbrev pub view : RowSeat S → View S
  view seat = seat.seat.me.0

  -- the shape and the sort of a table
  abbrev pub plan_of : Rows S → Plan S
  plan_of rows = rows.table.shared.key

  -- the seat is one of this table's: the table and it, or the one that it was split from, come from
  -- one `new`
  pub record IsAt (rows : Rows S) (seat : Seat ℕ (View S)) : Type 0 where
    pub table : seat.table_id ≡ rows.table.shared.table_id
    pub plan : seat.me.0.plan ≡ Some (plan_of rows)

  abbrev pub IsSeatOf : Rows S → RowSeat S → Type 0
  IsSeatOf rows seat = IsAt rows seat.seat

  -- a place of the table that the seat knows
  abbrev pub IsKnown : Rows S → RowSeat S → ℕ → Type 0
  IsKnown rows seat place = (place < (plan_of rows).shape.slots) × Knows (view seat) place

  -- i is below the length of the known record
  abbrev pub IsBelowSize : View S → ℕ → ℕ → Type 0
  IsBelowSize v place i = (slot : ℕ) → Saw v.seen (place + 1) slot → i < size_in slot

  -- the known record has so many words at least
  abbrev pub HasFront : View S → ℕ → ℕ → Type 0
  HasFront v place n = (slot : ℕ) → Saw v.seen (place + 1) slot → n ≤ size_in slot

  -- the first word of the seat's arena that isn't used yet
  abbrev pub next_word : Rows S → View S → ℕ
  next_word rows v = arena_start (plan_of rows).shape v.number + v.used
