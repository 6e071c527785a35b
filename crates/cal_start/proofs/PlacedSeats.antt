-- Seats at books, place by place: with one book more, and while seats are split off.
use Rattle.std.proofs.Common.{◌≡◌, ℕ, ◌+◌, ◌<◌, ◌≤◌, List, [], ◌∷◌, ◌++◌, length, set}
use Rattle.std.proofs.Common.{sym, ap, ◌∙◌, subst, arith, ⊎_elim}
use Rattle.std.specs.Prelude.{Some, slice_get}
use Rattle.std.proofs.lemmas.List.{length-set, length_push}
use Rattle.std.proofs.lemmas.Option.{slice_get_within}
use Rattle.cal_book.proofs.Lists.{at_end, at_set}
use Rattle.cal_replay.specs.Flushing.{BookOf, SeatOf}
use Rattle.cal_start.specs.FirstSeats.{HaveSeats}

module _ (fact : BookOf → SeatOf → Type 0) where
  -- one book more, with its seat
  pub seats-push : (books : List BookOf) (seats : List SeatOf) (book : BookOf) (seat : SeatOf)
      → HaveSeats fact books seats → fact book seat
      → HaveSeats fact (books ++ book ∷ []) (seats ++ seat ∷ [])
  seats-push books seats book seat have here = record {
    many = length_push seats seat ∙ ap (λ (n : ℕ). n + 1) have.many ∙ sym (length_push books book);
    each = λ place b s at_book at_seat. ⊎_elim
        (λ was. ⊎_elim (λ too. have.each place b s was too)
        (λ end.
        let less = slice_get_within books place b was in
        let at = end.1 in
        let many = have.many in
        absurd (omega (arith, less, at, many)))
        (at_end seats seat s place at_seat))
        (λ new. ⊎_elim (λ too.
        let less = slice_get_within seats place s too in
        let at = new.1 in
        let many = have.many in
        absurd (omega (arith, less, at, many)))
        (λ end. subst (λ (x : SeatOf). fact b x) end.0
        (subst (λ (x : BookOf). fact x seat) new.0 here))
        (at_end seats seat s place at_seat))
        (at_end books book b place at_book);
  }

-- Of the books before a place something holds with the seats, and of those behind it something
-- else.
pub record AreSplit (done left : BookOf → SeatOf → Type 0) (books : List BookOf)
    (seats : List SeatOf) (place : ℕ) : Type 0 where
  pub many : length seats ≡ length books
  pub before : (k : ℕ) (book : BookOf) (seat : SeatOf) → k < place
      → slice_get books k ≡ Some book → slice_get seats k ≡ Some seat → done book seat
  pub behind : (k : ℕ) (book : BookOf) (seat : SeatOf) → place ≤ k
      → slice_get books k ≡ Some book → slice_get seats k ≡ Some seat → left book seat

module _ (done left : BookOf → SeatOf → Type 0) (books : List BookOf) where
  -- one place more
  pub split-more : (seats : List SeatOf) (place : ℕ) (book : BookOf) (seat : SeatOf)
      → AreSplit done left books seats place → slice_get books place ≡ Some book
      → done book seat → AreSplit done left books (set seats place seat) (place + 1)
  split-more seats place book seat split at here = record {
    many = length-set seats place seat ∙ split.many;
    before = λ k b s less at_book at_seat. ⊎_elim
        (λ same.
        let one : book ≡ b =
        let e = subst (λ (n : ℕ). slice_get books n ≡ Some b) same.0 at_book in cc in
        subst (λ (x : SeatOf). done b x) same.1 (subst (λ (x : BookOf). done x seat) one here))
        (λ other.
        let apart = other.0 in
        split.before k b s (omega (arith, less, apart)) at_book other.1)
        (at_set seats place k seat s at_seat);
    behind = λ k b s from at_book at_seat. ⊎_elim
        (λ same. let e = same.0 in absurd (omega (arith, from, e)))
        (λ other. split.behind k b s (omega (arith, from)) at_book other.1)
        (at_set seats place k seat s at_seat);
  }

  -- behind the last place
  pub split-all : (seats : List SeatOf) (place : ℕ) → length books ≤ place
      → AreSplit done left books seats place → HaveSeats done books seats
  split-all seats place all split = record {
    many = split.many;
    each = λ k book seat at_book at_seat.
        let less = slice_get_within books k book at_book in
        split.before k book seat (omega (arith, less, all)) at_book at_seat;
  }

-- New seats at the books before a place.
pub record AreMade (fact : BookOf → SeatOf → Type 0) (books : List BookOf) (seats : List SeatOf)
    (place : ℕ) : Type 0 where
  pub many : length seats ≡ place
  pub each : (k : ℕ) (book : BookOf) (seat : SeatOf) → slice_get books k ≡ Some book
      → slice_get seats k ≡ Some seat → fact book seat

module _ (fact : BookOf → SeatOf → Type 0) (books : List BookOf) where
  -- one more
  pub made-more : (seats : List SeatOf) (place : ℕ) (book : BookOf) (seat : SeatOf)
      → AreMade fact books seats place → slice_get books place ≡ Some book → fact book seat
      → AreMade fact books (seats ++ seat ∷ []) (place + 1)
  made-more seats place book seat made at here = record {
    many = length_push seats seat ∙ ap (λ (n : ℕ). n + 1) made.many;
    each = λ k b s at_book at_seat. ⊎_elim
        (λ was. made.each k b s at_book was)
        (λ end.
        let one : book ≡ b =
        let e = subst (λ (n : ℕ). slice_get books n ≡ Some b) (end.1 ∙ made.many) at_book in
        cc in
        subst (λ (x : SeatOf). fact b x) end.0 (subst (λ (x : BookOf). fact x seat) one here))
        (at_end seats seat s k at_seat);
  }
