-- The seats that the threads of a run have at the place of a channel, list by list.
use Rattle.std.proofs.Common.{◌≡◌, ℕ, zero, suc, ◌+◌, List, [], ◌∷◌, length}
use Rattle.std.proofs.Common.{map, refl, sym, ap, ◌∙◌, subst, arith}
use Rattle.std.specs.Prelude.{Some, option_map, slice_get}
use Rattle.std.proofs.lemmas.Option.{get_or_from_slice_get, same_Some, slice_get-map}
use Rattle.cal_book.specs.Accounts.{blank}
use Rattle.cal_book.specs.Seats.{view}
use Rattle.cal_closing.specs.Seats.{IsThreadSeat, accounts_of}
use Rattle.cal_finish.specs.Ended.{accounts_at}
use Rattle.cal_channel.specs.Places.{at_place}
use Rattle.cal_keeping.specs.Hands.{AccountOf, account_in}
use Rattle.cal_keeping.specs.declared.book_hand.BookHand.{BookHand}
use Rattle.cal_keeping.specs.declared.runner.Runner.{Runner}
use Rattle.cal_ran.proofs.Places.{seats_of, seats-cons}
use Rattle.cal_replay.specs.Flushing.{BookOf, SeatOf}

-- what is done at a place is the account of the seat there
account-at : (hand : BookHand) (place : ℕ) (seat : SeatOf)
    → slice_get hand.seats.items place ≡ Some seat
    → account_in hand place ≡ (view seat).account
account-at hand place seat at =
    let account : SeatOf → AccountOf = λ s. (view s).account in
    get_or_from_slice_get (map account hand.seats.items) place (account seat) blank
    (slice_get-map account hand.seats.items place ∙ ap (option_map account) at)

module _ {P : Type 0} (place : ℕ) (book : BookOf) where
  -- the runner of a number has a seat at the book
  pub record Stands (number : ℕ) (r : Runner P BookHand) : Type 0 where
    pub seat : SeatOf
    pub seat_at : slice_get r.channels.hand.seats.items place ≡ Some seat
    pub is : IsThreadSeat book number seat

  -- and so have all, whose numbers are those from one on
  abbrev pub AllStand : ℕ → List (Runner P BookHand) → Type 0
  AllStand n [] = Unit {0}
  AllStand n (r ∷ runners) = Stands n r × AllStand (suc n) runners

  pub all-stand : (n : ℕ) (runners : List (Runner P BookHand))
      → ((number k : ℕ) (r : Runner P BookHand) → number ≡ n + k → slice_get runners k ≡ Some r
      → Stands number r)
      → AllStand n runners
  all-stand n [] each = tt
  all-stand n (r ∷ runners) each = (
    each n zero r (omega arith) refl,
    all-stand (suc n) runners
        (λ number k s e at. each number (suc k) s (omega (arith, e)) at),
  )

  pub length-at : (n : ℕ) (runners : List (Runner P BookHand)) → AllStand n runners
      → length (at_place place (seats_of runners)) ≡ length runners
  length-at n [] all = refl
  length-at n (r ∷ runners) all =
      ap (λ (seats : List SeatOf). length seats)
      (seats-cons place r runners all.0.seat all.0.seat_at)
      ∙ ap suc (length-at (suc n) runners all.1)

  -- each seat there is that of its thread
  pub own-at : (n : ℕ) (runners : List (Runner P BookHand)) → AllStand n runners
      → (number k : ℕ) (seat : SeatOf) → number ≡ n + k
      → slice_get (at_place place (seats_of runners)) k ≡ Some seat
      → IsThreadSeat book number seat
  own-at n [] all number k seat e at = absurd cc
  own-at n (r ∷ runners) all number zero seat e at =
      subst (λ (s : SeatOf). IsThreadSeat book number s)
      (same_Some all.0.seat seat
      (subst (λ (seats : List SeatOf). slice_get seats zero ≡ Some seat)
      (seats-cons place r runners all.0.seat all.0.seat_at) at))
      (subst (λ (m : ℕ). IsThreadSeat book m all.0.seat) (omega (arith, e)) all.0.is)
  own-at n (r ∷ runners) all number (suc k) seat e at =
      own-at (suc n) runners all.1 number k seat (omega (arith, e))
      (subst (λ (seats : List SeatOf). slice_get seats (suc k) ≡ Some seat)
      (seats-cons place r runners all.0.seat all.0.seat_at) at)

  -- what each has done at the book is that of the seat there
  pub accounts-are : (n : ℕ) (runners : List (Runner P BookHand)) → AllStand n runners
      → accounts_of (at_place place (seats_of runners)) ≡ accounts_at account_in place runners
  accounts-are n [] all = refl
  accounts-are n (r ∷ runners) all =
      ap (λ (seats : List SeatOf). accounts_of seats)
      (seats-cons place r runners all.0.seat all.0.seat_at)
      ∙ (λ i. sym (account-at r.channels.hand place all.0.seat all.0.seat_at) i
      ∷ accounts-are (suc n) runners all.1 i)
