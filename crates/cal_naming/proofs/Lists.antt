-- Lists whose items go together, and places in lists.
use Rattle.std.proofs.Common.{◌≡◌, ℕ, zero, suc, ◌<◌, Bool, true, false, cond, List, [], ◌∷◌, ◌++◌}
use Rattle.std.proofs.Common.{length, map, refl, sym, ap, ◌∙◌, subst, arith}
use Rattle.std.specs.Prelude.{All, Contains, Some, find, flat_map, slice_get}
use Rattle.std.specs.List.{AllZip}
use Rattle.std.proofs.lemmas.List.Elements.{All-contains, Contains-append_left}
use Rattle.std.proofs.lemmas.List.Elements.{Contains-append_right}
use Rattle.std.proofs.lemmas.Option.{get_or_from_slice_get, same_Some, slice_get_within}

module _ {A : Type 0} where
  -- an item at a place stands in the list
  pub contains-at : (xs : List A) (k : ℕ) (x : A) → slice_get xs k ≡ Some x → Contains xs x
  contains-at xs k x is = (k, slice_get_within xs k x is, get_or_from_slice_get xs k x x is)

  pub all-at : (P : A → Type 0) (xs : List A) (k : ℕ) (x : A) → All P xs
      → slice_get xs k ≡ Some x → P x
  all-at P xs k x all is = All-contains P xs x all (contains-at xs k x is)

  -- an item in a list that goes on
  pub get-front : (xs ys : List A) (k : ℕ) (x : A) → slice_get xs k ≡ Some x
      → slice_get (xs ++ ys) k ≡ Some x
  get-front [] ys k x is = absurd cc
  get-front (a ∷ xs) ys zero x is = is
  get-front (a ∷ xs) ys (suc k) x is = get-front xs ys k x is

  -- the last item of a list
  pub get-last : (xs : List A) (y : A) → slice_get (xs ++ y ∷ []) (length xs) ≡ Some y
  get-last [] y = refl
  get-last (a ∷ xs) y = get-last xs y

  -- an item before the last one
  pub get-before : (xs : List A) (y : A) (k : ℕ) (x : A) → k < length xs
      → slice_get (xs ++ y ∷ []) k ≡ Some x → slice_get xs k ≡ Some x
  get-before [] y k x less is = absurd (omega (arith, less))
  get-before (a ∷ xs) y zero x less is = is
  get-before (a ∷ xs) y (suc k) x less is = get-before xs y k x (omega (arith, less)) is

  -- the first item that passes a test
  pub find-first : (p : A → Bool) (xs : List A) (k : ℕ) (x : A) → slice_get xs k ≡ Some x
      → p x ≡ true → ((i : ℕ) (y : A) → i < k → slice_get xs i ≡ Some y → p y ≡ false)
      → find p xs ≡ Some x
  find-first p [] k x is passes fails = absurd cc
  find-first p (y ∷ ys) zero x is passes fails =
      let here : p y ≡ true = ap p (same_Some y x is) ∙ passes in
      ap (λ (b : Bool). cond b (Some y) (find p ys)) here ∙ is
  find-first p (y ∷ ys) (suc k) x is passes fails =
      let here : p y ≡ false = fails 0 y (omega arith) refl in
      ap (λ (b : Bool). cond b (Some y) (find p ys)) here
      ∙ find-first p ys k x is passes (λ i z less at. fails (suc i) z (omega (arith, less)) at)

-- an item of one of the lists is one of all
pub contains-flat : {A : Type 0} (lists : List (List A)) (n : ℕ) (xs : List A) (k : ℕ) (x : A)
    → slice_get lists n ≡ Some xs → slice_get xs k ≡ Some x
    → Contains (flat_map (λ (ys : List A). ys) lists) x
contains-flat [] n xs k x is at = absurd cc
contains-flat {A} (ys ∷ lists) zero xs k x is at =
    Contains-append_left ys (flat_map (λ (zs : List A). zs) lists) x
    (subst (λ (zs : List A). Contains zs x) (sym (same_Some ys xs is)) (contains-at xs k x at))
contains-flat {A} (ys ∷ lists) (suc n) xs k x is at =
    Contains-append_right ys (flat_map (λ (zs : List A). zs) lists) x
    (contains-flat lists n xs k x is at)

module _ {A B : Type 0} (R : A → B → Type 0) where
  -- one pair more
  pub zip-push : (xs : List A) (ys : List B) (x : A) (y : B) → AllZip R xs ys → R x y
      → AllZip R (xs ++ x ∷ []) (ys ++ y ∷ [])
  zip-push [] [] x y all r = (r, tt)
  zip-push [] (b ∷ ys) x y all r = absurd all
  zip-push (a ∷ xs) [] x y all r = absurd all
  zip-push (a ∷ xs) (b ∷ ys) x y all r = (all.0, zip-push xs ys x y all.1 r)

  -- the item beside another one
  pub zip-right : (xs : List A) (ys : List B) (k : ℕ) (x : A) → AllZip R xs ys
      → slice_get xs k ≡ Some x → (y : B) × (slice_get ys k ≡ Some y) × R x y
  zip-right [] ys k x all is = absurd cc
  zip-right (a ∷ xs) [] k x all is = absurd all
  zip-right (a ∷ xs) (b ∷ ys) zero x all is =
      (b, refl, subst (λ (t : A). R t b) (same_Some a x is) all.0)
  zip-right (a ∷ xs) (b ∷ ys) (suc k) x all is = zip-right xs ys k x all.1 is

  pub zip-left : (xs : List A) (ys : List B) (k : ℕ) (y : B) → AllZip R xs ys
      → slice_get ys k ≡ Some y → (x : A) × (slice_get xs k ≡ Some x) × R x y
  zip-left [] [] k y all is = absurd cc
  zip-left [] (b ∷ ys) k y all is = absurd all
  zip-left (a ∷ xs) [] k y all is = absurd all
  zip-left (a ∷ xs) (b ∷ ys) zero y all is =
      (a, refl, subst (λ (t : B). R a t) (same_Some b y is) all.0)
  zip-left (a ∷ xs) (b ∷ ys) (suc k) y all is = zip-left xs ys k y all.1 is

  pub zip-at : (xs : List A) (ys : List B) (k : ℕ) (x : A) (y : B) → AllZip R xs ys
      → slice_get xs k ≡ Some x → slice_get ys k ≡ Some y → R x y
  zip-at xs ys k x y all is at =
      let r = zip-right xs ys k x all is in
      subst (λ (t : B). R x t) (same_Some r.0 y (sym r.1 ∙ at)) r.2

  pub zip-long : (xs : List A) (ys : List B) → AllZip R xs ys → length ys ≡ length xs
  zip-long [] [] all = refl
  zip-long [] (b ∷ ys) all = absurd all
  zip-long (a ∷ xs) [] all = absurd all
  zip-long (a ∷ xs) (b ∷ ys) all = ap suc (zip-long xs ys all.1)

-- what holds of each pair in other words
pub zip-more : {A B : Type 0} (R Q : A → B → Type 0) (xs : List A) (ys : List B)
    → ((x : A) (y : B) → R x y → Q x y) → AllZip R xs ys → AllZip Q xs ys
zip-more R Q [] [] f all = tt
zip-more R Q [] (b ∷ ys) f all = absurd all
zip-more R Q (a ∷ xs) [] f all = absurd all
zip-more R Q (a ∷ xs) (b ∷ ys) f all = (f a b all.0, zip-more R Q xs ys f all.1)

-- what holds of each item and what is made of the other one
pub zip-mapped : {A B C : Type 0} (f : B → C) (Q : A → C → Type 0) (xs : List A) (ys : List B)
    → AllZip (λ x y. Q x (f y)) xs ys → AllZip Q xs (map f ys)
zip-mapped f Q [] [] all = tt
zip-mapped f Q [] (b ∷ ys) all = absurd all
zip-mapped f Q (a ∷ xs) [] all = absurd all
zip-mapped f Q (a ∷ xs) (b ∷ ys) all = (all.0, zip-mapped f Q xs ys all.1)
