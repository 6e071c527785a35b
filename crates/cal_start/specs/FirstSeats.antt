-- The first seats of a run, from which those of its threads are split off.
use Rattle.std.specs.Prelude.{◌≡◌, ℕ, List, length, None, Some, slice_get}
use Rattle.cal_book.specs.Accounts.{blank}
use Rattle.cal_book.specs.Seats.{IsSeatOf, view}
use Rattle.cal_replay.specs.Flushing.{BookOf, SeatOf}
use Rattle.cal_start.specs.declared.run.FirstSeats.{FirstSeats}
use Rattle.cal_start.specs.declared.run.Run.{Run}
use Rattle.cal_thread.specs.Hiring.{HasHired}

-- the first seat at a book, from which so many others were split off
pub record IsFirstSeat (count : ℕ) (book : BookOf) (seat : SeatOf) : Type 0 where
  pub seat_is : IsSeatOf book seat
  pub first : (view seat).thread ≡ None
  pub others : length (view seat).others ≡ count

-- A seat is a thread's at a book, which has done nothing there.
pub record IsNewSeat (thread : ℕ) (book : BookOf) (seat : SeatOf) : Type 0 where
  pub seat_is : IsSeatOf book seat
  pub own : (view seat).thread ≡ Some thread
  pub nothing : (view seat).account ≡ blank

-- Each book has a seat at its place, of which something holds.
pub record HaveSeats (fact : BookOf → SeatOf → Type 0) (books : List BookOf) (seats : List SeatOf)
    : Type 0 where
  pub many : length seats ≡ length books
  pub each : (place : ℕ) (book : BookOf) (seat : SeatOf) → slice_get books place ≡ Some book
      → slice_get seats place ≡ Some seat → fact book seat

-- the first seats of books
abbrev pub AreFirstSeats : ℕ → List BookOf → List SeatOf → Type 0
AreFirstSeats count books seats = HaveSeats (IsFirstSeat count) books seats

-- a thread's seats at books, where it has done nothing
abbrev pub AreNewSeats : ℕ → List BookOf → List SeatOf → Type 0
AreNewSeats thread books seats = HaveSeats (IsNewSeat thread) books seats

-- So many threads of a run were hired with seats that were split off from these.
pub record HaveHired (run : Run) (first : FirstSeats) (count : ℕ) : Type 0 where
  pub hired : HasHired run.shared.common first.tree first.log count
  pub books : AreFirstSeats count run.books.items first.books.items
