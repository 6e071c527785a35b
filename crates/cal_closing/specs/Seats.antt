-- The seats that the threads of a run had at one cell, in the order of the threads' numbers.
use Rattle.std.specs.Prelude.{◌≡◌, ℕ, List, Some, flat_map, map, slice_get}
use Rattle.cal_book.specs.Seats.{IsSeatOf, view}
use Rattle.cal_book.specs.declared.cell.FlushCell.{FlushCell}
use Rattle.cal_book.specs.declared.seat.FlushSeat.{FlushSeat}
use Rattle.cal_book.specs.declared.view.Account.{Account}

module _ {T Q : Type 0} where
  -- a seat is that of the thread of a number at a cell
  pub record IsThreadSeat (cell : FlushCell T Q) (number : ℕ) (seat : FlushSeat T Q) : Type 0 where
    pub seat_is : IsSeatOf cell seat
    pub own : (view seat).thread ≡ Some number

  -- of each thread of a run its seat
  abbrev pub AreThreadSeats : FlushCell T Q → List (FlushSeat T Q) → Type 0
  AreThreadSeats cell seats = (number : ℕ) (seat : FlushSeat T Q)
      → slice_get seats number ≡ Some seat → IsThreadSeat cell number seat

  -- what each thread has done
  abbrev pub accounts_of : List (FlushSeat T Q) → List (Account T)
  accounts_of seats = map (λ (seat : FlushSeat T Q). (view seat).account) seats

-- the parts that threads have given: the first one's, then the second one's, and so on
abbrev pub given_by : {T : Type 0} → List (Account T) → List T
given_by accounts = flat_map (λ account. account.given) accounts
