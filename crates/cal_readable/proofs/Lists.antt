-- What holds of each item of a list holds of each item of a list that is made of it.
use Rattle.std.proofs.Common.{◌≡◌, Bool, true, false, not, List, [], ◌∷◌, ◌++◌, filter, map, refl}
use Rattle.std.specs.Prelude.{Option, None, Some, flat_map, if◌then◌else◌}
use Rattle.std.specs.List.{AllByRecursion, cons_option, filter_map}
use Rattle.std.specs.Ordering.{is_lt}
use Rattle.std.specs.declared.cmp.Ordering.{Ordering}
use Rattle.cal_keys.specs.FirstSeen.{firsts}
use Rattle.cal_engine.specs.Sorting.{put_in, sorted}
use Rattle.cal_profile.proofs.Lists.{all-filter}

pub all-append : {A : Type 0} (P : A → Type 0) (xs ys : List A) → AllByRecursion P xs
    → AllByRecursion P ys → AllByRecursion P (xs ++ ys)
all-append P [] ys one other = other
all-append P (x ∷ xs) ys one other = (one.0, all-append P xs ys one.1 other)

module _ {A B : Type 0} (P : A → Type 0) (Q : B → Type 0) where
  pub all-map : (f : A → B) → ((x : A) → P x → Q (f x)) → (xs : List A) → AllByRecursion P xs
      → AllByRecursion Q (map f xs)
  all-map f so [] all = tt
  all-map f so (x ∷ xs) all = (so x all.0, all-map f so xs all.1)

  pub all-flat_map : (f : A → List B) → ((x : A) → P x → AllByRecursion Q (f x)) → (xs : List A)
      → AllByRecursion P xs → AllByRecursion Q (flat_map f xs)
  all-flat_map f so [] all = tt
  all-flat_map f so (x ∷ xs) all =
      all-append Q (f x) (flat_map f xs) (so x all.0) (all-flat_map f so xs all.1)

  pub all-filter_map : (f : A → Option B) → ((x : A) → P x → (y : B) → f x ≡ Some y → Q y)
      → (xs : List A) → AllByRecursion P xs → AllByRecursion Q (filter_map f xs)
  all-filter_map f so [] all = tt
  all-filter_map f so (x ∷ xs) all = by (f x) (so x all.0) (all-filter_map f so xs all.1)
    where
      by : (o : Option B) → ((y : B) → o ≡ Some y → Q y) → AllByRecursion Q (filter_map f xs)
          → AllByRecursion Q (cons_option o (filter_map f xs))
      by None one rest = rest
      by (Some y) one rest = (one y refl, rest)

module _ {A : Type 0} (P : A → Type 0) where
  -- what a test keeps passes it
  pub all-kept : (test : A → Bool) (xs : List A) → AllByRecursion P xs
      → AllByRecursion (λ x. P x × (test x ≡ true)) (filter test xs)
  all-kept test [] all = tt
  all-kept test (x ∷ xs) all = by (test x) refl (all-kept test xs all.1)
    where
      by : (b : Bool) → test x ≡ b → AllByRecursion (λ x. P x × (test x ≡ true)) (filter test xs)
          → AllByRecursion (λ x. P x × (test x ≡ true)) (filter test (x ∷ xs))
      by true is rest = rw is ((all.0, is), rest)
      by false is rest = rw is rest

  pub all-firsts : (same : A → A → Bool) (xs : List A) → AllByRecursion P xs
      → AllByRecursion P (firsts same xs)
  all-firsts same [] all = tt
  all-firsts same (x ∷ xs) all = (
    all.0,
    all-filter P (λ other. not (same other x)) (firsts same xs) (all-firsts same xs all.1),
  )

  all-put_in : (cmp : A → A → Ordering) (x : A) (xs : List A) → P x → AllByRecursion P xs
      → AllByRecursion P (put_in cmp x xs)
  all-put_in cmp x [] own all = (own, tt)
  all-put_in cmp x (y ∷ ys) own all = by (is_lt (cmp y x)) (all-put_in cmp x ys own all.1)
    where
      by : (b : Bool) → AllByRecursion P (put_in cmp x ys)
          → AllByRecursion P (if b then y ∷ put_in cmp x ys else x ∷ y ∷ ys)
      by true rest = (all.0, rest)
      by false rest = (own, all)

  pub all-sorted : (cmp : A → A → Ordering) (xs : List A) → AllByRecursion P xs
      → AllByRecursion P (sorted cmp xs)
  all-sorted cmp [] all = tt
  all-sorted cmp (x ∷ xs) all =
      all-put_in cmp x (sorted cmp xs) all.0 (all-sorted cmp xs all.1)
