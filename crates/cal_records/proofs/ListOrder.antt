-- Lists are compared item by item.
use Rattle.std.proofs.Common.{◌≡◌, ◌≢◌, ℕ, ◌+◌, ◌<◌, ◌≤◌, List, [], ◌∷◌, ◌++◌, length, get_or, drop}
use Rattle.std.proofs.Common.{suc, ◌-◌, map, refl, sym, ap, ◌∙◌, arith, add-one}
use Rattle.std.proofs.Math.Seq.{drop-cons}
use Rattle.std.proofs.lemmas.List.{drop_all, length-drop}
use Rattle.std.specs.Cmp.Lexicographic.{slice_cmp}
use Rattle.std.specs.Ordering.{ordering_then}
use Rattle.std.specs.declared.cmp.Ordering.{Ordering}
use Rattle.std.specs.declared.cmp.Ordering.TheVariants.{Less, Equal, Greater}

-- the first answer that isn't Equal stands
pub then-decided : (o r : Ordering) → o ≢ Equal → ordering_then o r ≡ o
then-decided Less r other = refl
then-decided Equal r other = absurd (other refl)
then-decided Greater r other = refl

pub then-tied : (o r : Ordering) → o ≡ Equal → ordering_then o r ≡ r
then-tied o r same = ap (λ a. ordering_then a r) same

-- what is left of a list, by its next item
left : {A : Type 0} (xs : List A) (n : ℕ) (x : A) → n < length xs → x ≡ get_or xs n x
    → drop n xs ≡ x ∷ drop (n + 1) xs
left xs n x below is = rw (add-one n) (drop-cons xs n x below ∙ (λ i. sym is i ∷ drop (suc n) xs))

module _ {A : Type 0} (R : A → A → Ordering) where
  -- two lists by the next item of each
  pub compare-next : (xs ys : List A) (n : ℕ) (x y : A) → n < length xs → n < length ys
      → x ≡ get_or xs n x → y ≡ get_or ys n y
      → slice_cmp R (drop n xs) (drop n ys)
      ≡ ordering_then (R x y) (slice_cmp R (drop (n + 1) xs) (drop (n + 1) ys))
  compare-next xs ys n x y below under is_x is_y =
      λ i. slice_cmp R (left xs n x below is_x i) (left ys n y under is_y i)

  -- a list that ends first comes first
  pub compare-longer : (xs ys : List A) (n : ℕ) → n < length xs → length ys ≤ n
      → slice_cmp R (drop n xs) (drop n ys) ≡ Greater
  compare-longer xs ys n below end = by (drop n xs) (length-drop n xs)
    where
      by : (us : List A) → length us ≡ length xs - n → slice_cmp R us (drop n ys) ≡ Greater
      by [] e = absurd (omega (arith, e, below))
      by (u ∷ us) e = ap (λ vs. slice_cmp R (u ∷ us) vs) (drop_all n ys end)

  pub compare-shorter : (xs ys : List A) (n : ℕ) → length xs ≤ n → n < length ys
      → slice_cmp R (drop n xs) (drop n ys) ≡ Less
  compare-shorter xs ys n end under = by (drop n ys) (length-drop n ys)
    where
      by : (vs : List A) → length vs ≡ length ys - n → slice_cmp R (drop n xs) vs ≡ Less
      by [] e = absurd (omega (arith, e, under))
      by (v ∷ vs) e = ap (λ us. slice_cmp R us (v ∷ vs)) (drop_all n xs end)

  pub compare-ended : (xs ys : List A) (n : ℕ) → length xs ≤ n → length ys ≤ n
      → slice_cmp R (drop n xs) (drop n ys) ≡ Equal
  compare-ended xs ys n end other_end =
      λ i. slice_cmp R (drop_all n xs end i) (drop_all n ys other_end i)

-- lists of what items stand for are compared by what these stand for
pub compare-map : {A B : Type 0} (R : B → B → Ordering) (f : A → B) (xs ys : List A)
    → slice_cmp R (map f xs) (map f ys) ≡ slice_cmp (λ x y. R (f x) (f y)) xs ys
compare-map R f [] [] = refl
compare-map R f [] (y ∷ ys) = refl
compare-map R f (x ∷ xs) [] = refl
compare-map R f (x ∷ xs) (y ∷ ys) = ap (ordering_then (R (f x) (f y))) (compare-map R f xs ys)

-- a front that two lists share says nothing
pub compare-shared : {A : Type 0} (R : A → A → Ordering) → ((x : A) → R x x ≡ Equal)
    → (front xs ys : List A) → slice_cmp R (front ++ xs) (front ++ ys) ≡ slice_cmp R xs ys
compare-shared R same [] xs ys = refl
compare-shared R same (x ∷ front) xs ys =
    then-tied (R x x) (slice_cmp R (front ++ xs) (front ++ ys)) (same x)
    ∙ compare-shared R same front xs ys
