-- What the first seat is told when the others are joined, from the last one on.
use Rattle.std.proofs.Common.{◌≡◌, ℕ, zero, suc, ◌<◌, Option, Some, List, [], ◌∷◌, ◌++◌}
use Rattle.std.proofs.Common.{length, map, set, drop, refl, sym, ap, ◌∙◌}
use Rattle.std.proofs.Common.{add-one, append_assoc, arith, length-append, length-set}
use Rattle.std.specs.List.{slice_get}
use Rattle.cal_book.specs.Seats.{view}
use Rattle.cal_book.specs.Views.{joined, with_account}
use Rattle.cal_book.specs.declared.cell.FlushCell.{FlushCell}
use Rattle.cal_book.specs.declared.seat.FlushSeat.{FlushSeat}
use Rattle.cal_book.specs.declared.view.Account.{Account}
use Rattle.cal_book.specs.declared.view.View.{View}
use Rattle.cal_closing.specs.Seats.{AreThreadSeats, IsThreadSeat, accounts_of}

module _ {A : Type 0} where
  -- what stands from a place on, with another item at the place
  drop-set_here : (xs : List A) (k : ℕ) (x : A) → k < length xs
      → drop k (set xs k x) ≡ x ∷ drop (suc k) xs
  drop-set_here [] k x l = absurd (omega (arith, l))
  drop-set_here (y ∷ ys) zero x l = refl
  drop-set_here (y ∷ ys) (suc k) x l = drop-set_here ys k x (omega (arith, l))

  -- the item between two lists
  slice_get-seam : (xs : List A) (x : A) (ys : List A)
      → slice_get (xs ++ x ∷ ys) (length xs) ≡ Some x
  slice_get-seam [] x ys = refl
  slice_get-seam (y ∷ xs) x ys = slice_get-seam xs x ys

module _ {T Q : Type 0} where
  -- Of all seats these are left; the first seat was told of the others.
  pub record IsTold (all left : List (FlushSeat T Q)) (v : View T Q) : Type 0 where
    pub gone : List (FlushSeat T Q)
    pub whole : all ≡ left ++ gone
    pub long : length v.others ≡ length all
    pub told : drop (length left) v.others ≡ map Some (accounts_of gone)

  -- the last one of those that are left
  pub last-seat : (cell : FlushCell T Q) (all popped left : List (FlushSeat T Q))
      (seat : FlushSeat T Q) (v : View T Q) → AreThreadSeats cell all → IsTold all popped v
      → popped ≡ left ++ seat ∷ [] → IsThreadSeat cell (length left) seat
  last-seat cell all popped left seat v seats h pop = seats (length left) seat
      (ap (λ (xs : List (FlushSeat T Q)). slice_get xs (length left))
      (h.whole ∙ ap (λ (xs : List (FlushSeat T Q)). xs ++ h.gone) pop
      ∙ append_assoc left (seat ∷ []) h.gone)
      ∙ slice_get-seam left seat h.gone)

  -- it is joined
  pub told-more : (cell : FlushCell T Q) (all popped left : List (FlushSeat T Q))
      (seat : FlushSeat T Q) (v w : View T Q) → AreThreadSeats cell all → IsTold all popped v
      → popped ≡ left ++ seat ∷ [] → w ≡ joined v (view seat) → IsTold all left w
  told-more cell all popped left seat v w seats h pop join = record {
    gone = seat ∷ h.gone;
    whole = whole;
    long = ap length others ∙ length-set v.others (length left) (Some account) ∙ h.long;
    told = ap (λ (xs : List (Option (Account T))). drop (length left) xs) others
        ∙ drop-set_here v.others (length left) (Some account) within
        ∙ ap (λ (xs : List (Option (Account T))). Some account ∷ xs) behind;
  }
    where
      account : Account T
      account = (view seat).account

      whole : all ≡ left ++ seat ∷ h.gone
      whole = h.whole ∙ ap (λ (xs : List (FlushSeat T Q)). xs ++ h.gone) pop
          ∙ append_assoc left (seat ∷ []) h.gone

      others : w.others ≡ set v.others (length left) (Some account)
      others = ap (λ (x : View T Q). x.others) join
          ∙ ap (λ (t : Option ℕ). with_account v.others t account)
          (last-seat cell all popped left seat v seats h pop).own

      within : length left < length v.others
      within =
          let e = ap (λ (xs : List (FlushSeat T Q)). length xs) whole in
          let sum = length-append left (seat ∷ h.gone) in
          let long = h.long in
          omega (arith, e, sum, long)

      behind : drop (suc (length left)) v.others ≡ map Some (accounts_of h.gone)
      behind = ap (λ (n : ℕ). drop n v.others)
          (sym (ap (λ (xs : List (FlushSeat T Q)). length xs) pop
          ∙ length-append left (seat ∷ []) ∙ add-one (length left)))
          ∙ h.told

  -- none is left
  pub told-all : (all left : List (FlushSeat T Q)) (v : View T Q) → length left ≡ 0
      → IsTold all left v → v.others ≡ map Some (accounts_of all)
  told-all all [] v none h =
      h.told ∙ ap (λ (xs : List (FlushSeat T Q)). map Some (accounts_of xs)) (sym h.whole)
  told-all all (seat ∷ left) v none h = absurd (omega (arith, none))
