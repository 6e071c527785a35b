-- The hand of a thread that has new seats at the books of a run.
use Rattle.std.proofs.Common.{◌≡◌, ℕ, zero, suc, List, [], ◌∷◌, length, map, refl, arith}
use Rattle.std.specs.Prelude.{Some, slice_get, slice_index_or}
use Rattle.cal_book.specs.Accounts.{blank}
use Rattle.cal_book.specs.Seats.{shape_of, view}
use Rattle.cal_keeping.specs.Hands.{IsAtBooks, account_in}
use Rattle.cal_keeping.specs.declared.book_hand.BookHand.{BookHand}
use Rattle.cal_replay.specs.Flushing.{BookOf, SeatOf}
use Rattle.cal_start.specs.FirstSeats.{AreNewSeats, IsNewSeat}
use Rattle.cal_table.specs.declared.shape.TableShape.{TableShape}

-- nothing is done at any of new seats
blank-at : (thread : ℕ) (books : List BookOf) (seats : List SeatOf)
    → length seats ≡ length books
    → ((k : ℕ) (book : BookOf) (seat : SeatOf) → slice_get books k ≡ Some book
    → slice_get seats k ≡ Some seat → IsNewSeat thread book seat) → (place : ℕ)
    → slice_index_or (map (λ (s : SeatOf). (view s).account) seats) place blank ≡ blank
blank-at thread books [] many each place = refl
blank-at thread [] (s ∷ seats) many each place = absurd (omega (arith, many))
blank-at thread (b ∷ books) (s ∷ seats) many each zero = (each zero b s refl refl).nothing
blank-at thread (b ∷ books) (s ∷ seats) many each (suc place) =
    blank-at thread books seats (omega (arith, many)) (λ k. each (suc k)) place

module _ (thread : ℕ) (hand : BookHand)
    (new : AreNewSeats thread hand.books.now hand.seats.items) where
  -- it takes tables of the books' shapes
  pub takes-all : (shapes : List TableShape) → map shape_of hand.books.now ≡ shapes
      → IsAtBooks hand thread shapes
  takes-all shapes are = record {
    many = new.many;
    shapes_are = are;
    each = λ place book seat at_book at_seat.
        let has = new.each place book seat at_book at_seat in
        record { seat_is = has.seat_is; own = has.own };
  }

  -- and has done nothing
  pub nothing-done : (place : ℕ) → account_in hand place ≡ blank
  nothing-done place =
      blank-at thread hand.books.now hand.seats.items new.many new.each place
