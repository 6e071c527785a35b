-- What items count is added up one by one.
use Rattle.std.proofs.Common.{◌≡◌, ℕ, ◌+◌, ◌<◌, ◌≤◌, Bool, true, false, cond, if◌then◌else◌, List}
use Rattle.std.proofs.Common.{length, get_or, take, sym, ap, ◌∙◌, arith}
use Rattle.std.specs.Prelude.{sum_by, zip}
use Rattle.std.proofs.lemmas.List.{take_all}
use Rattle.std.proofs.lemmas.List.Sums.{sum_by_more}
use Rattle.std.proofs.lemmas.Slice.Zip.{get_or-zip, length-zip}

-- one item more is counted
pub sum-more : {X : Type 0} (f : X → ℕ) (xs : List X) (i : ℕ) (x : X) (count more : ℕ)
    → i < length xs → x ≡ get_or xs i x → more ≡ f x → count ≡ sum_by f (take i xs)
    → count + more ≡ sum_by f (take (i + 1) xs)
sum-more f xs i x count more below at is so_far =
    let next = sum_by_more f xs i x below in
    let same = ap f at in
    omega (arith, so_far, is, next, same)

-- and is no more than is allowed
pub sum-more_le : {X : Type 0} (f : X → ℕ) (xs : List X) (i : ℕ) (x : X) (count more : ℕ)
    → i < length xs → x ≡ get_or xs i x → more ≤ f x → count ≤ sum_by f (take i xs)
    → count + more ≤ sum_by f (take (i + 1) xs)
sum-more_le f xs i x count more below at few so_far =
    let next = sum_by_more f xs i x below in
    let same = ap f at in
    omega (arith, so_far, few, next, same)

-- all are counted
pub sum-all : {X : Type 0} (f : X → ℕ) (xs : List X) (i count : ℕ) → length xs ≤ i
    → count ≡ sum_by f (take i xs) → count ≡ sum_by f xs
sum-all f xs i count past so_far = so_far ∙ ap (sum_by f) (take_all i xs past)

module _ {A B : Type 0} (xs : List A) (ys : List B) (long : length ys ≡ length xs) (i : ℕ) where
  -- the items of a place of two lists, side by side
  pub zip-at : (x : A) (y : B) → x ≡ get_or xs i x → y ≡ get_or ys i y → i < length xs
      → (x, y) ≡ get_or (zip xs ys) i (x, y)
  zip-at x y ex ey below =
      sym (get_or-zip xs ys i (x, y) below (omega (arith, below, long))
      ∙ (λ j. (sym ex j, sym ey j)))

  pub zip-below : i < length xs → i < length (zip xs ys)
  zip-below below =
      let both = length-zip xs ys in
      omega (arith, both, below, long)

  pub zip-past : length xs ≤ i → length (zip xs ys) ≤ i
  zip-past past =
      let both = length-zip xs ys in
      omega (arith, both, past)

-- what counts as one or none
pub one-or-none : (b : Bool) (n : ℕ) → n ≡ (if b then 1 else 0) → n ≡ cond b 1 0
one-or-none true n is = is
one-or-none false n is = is

pub one-at_most : (b : Bool) (n : ℕ) → n ≡ (if b then 1 else 0) → n ≤ 1
one-at_most true n is = omega (arith, is)
one-at_most false n is = omega (arith, is)
