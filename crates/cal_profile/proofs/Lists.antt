-- Lemmas on lists that several files here cite.
use Rattle.std.proofs.Common.{◌≡◌, zero, suc, Bool, true, false, List, [], ◌∷◌, filter, map}
use Rattle.std.proofs.Common.{inl, inr, refl, ap, arith, Contains, Option}
use Rattle.std.specs.Prelude.{◌⊎◌}
use Rattle.std.specs.List.{AllByRecursion, cons_option, filter_map}
use Rattle.std.proofs.lemmas.List.Elements.{All-contains, All-from_recursion}
use Rattle.std.proofs.lemmas.List.Elements.{Contains-append_right}

module _ {A : Type 0} where
  -- what holds of each item holds of one that is there
  pub holds_of : (P : A → Type 0) (xs : List A) (x : A) → AllByRecursion P xs → Contains xs x → P x
  holds_of P xs x all there = All-contains P xs x (All-from_recursion P xs all) there

  -- and of all where it holds of each that is there
  pub holds_of_all : (P : A → Type 0) (xs : List A) → ((x : A) → Contains xs x → P x)
      → AllByRecursion P xs
  holds_of_all P [] each = tt
  holds_of_all P (x ∷ xs) each = (
    each x (0, omega arith, refl),
    holds_of_all P xs (λ y there. each y (Contains-append_right (x ∷ []) xs y there)),
  )

  pub all_weaker : (P Q : A → Type 0) → ((x : A) → P x → Q x) → (xs : List A)
      → AllByRecursion P xs → AllByRecursion Q xs
  all_weaker P Q so [] all = tt
  all_weaker P Q so (x ∷ xs) all = (so x all.0, all_weaker P Q so xs all.1)

  pub all-filter : (P : A → Type 0) (test : A → Bool) (xs : List A) → AllByRecursion P xs
      → AllByRecursion P (filter test xs)
  all-filter P test [] all = tt
  all-filter P test (x ∷ xs) all = by (test x) refl (all-filter P test xs all.1)
    where
      by : (b : Bool) → test x ≡ b → AllByRecursion P (filter test xs)
          → AllByRecursion P (filter test (x ∷ xs))
      by true is rest = rw is (all.0, rest)
      by false is rest = rw is rest

  -- each item passes a test, or none does
  pub filter_all : (test : A → Bool) (xs : List A) → AllByRecursion (λ x. test x ≡ true) xs
      → filter test xs ≡ xs
  filter_all test [] all = refl
  filter_all test (x ∷ xs) all =
      let first = all.0 in rw first (ap (λ ys. x ∷ ys) (filter_all test xs all.1))

  pub filter_none : (test : A → Bool) (xs : List A) → AllByRecursion (λ x. test x ≡ false) xs
      → filter test xs ≡ []
  filter_none test [] all = refl
  filter_none test (x ∷ xs) all = let first = all.0 in rw first (filter_none test xs all.1)

  -- two tests may be asked in either order
  pub filter-swap : (p t : A → Bool) (xs : List A) → filter p (filter t xs) ≡ filter t (filter p xs)
  filter-swap p t [] = refl
  filter-swap p t (x ∷ xs) = by (p x) (t x) refl refl (filter-swap p t xs)
    where
      by : (a b : Bool) → p x ≡ a → t x ≡ b → filter p (filter t xs) ≡ filter t (filter p xs)
          → filter p (filter t (x ∷ xs)) ≡ filter t (filter p (x ∷ xs))
      by true true ea eb rest = rw (ea, eb, ea) (ap (λ ys. x ∷ ys) rest)
      by true false ea eb rest = rw (ea, eb) rest
      by false true ea eb rest = rw (ea, eb, ea) rest
      by false false ea eb rest = rw (ea, eb) rest

pub filter_map-same : {A B : Type 0} (f g : A → Option B) (xs : List A)
    → ((x : A) → Contains xs x → f x ≡ g x) → filter_map f xs ≡ filter_map g xs
filter_map-same f g [] h = refl
filter_map-same f g (x ∷ xs) h =
    λ i. cons_option (h x (0, omega arith, refl) i)
    (filter_map-same f g xs (λ y there. h y (Contains-append_right (x ∷ []) xs y there)) i)

-- ---- what a list contains

pub Contains-cons : {A : Type 0} (x y : A) (xs : List A) → Contains xs x → Contains (y ∷ xs) x
Contains-cons x y xs there = Contains-append_right (y ∷ []) xs x there

pub Contains-first : {A : Type 0} (x y : A) (xs : List A) → y ≡ x → Contains (y ∷ xs) x
Contains-first x y xs is = (0, omega arith, is)

-- an item is the first of a list, or stands behind it
pub Contains-cases : {A : Type 0} (x y : A) (xs : List A) → Contains (y ∷ xs) x
    → (y ≡ x) ⊎ Contains xs x
Contains-cases x y xs (zero, short, is) = inl is
Contains-cases x y xs (suc k, short, is) = inr (k, omega arith, is)

pub Contains-nil : {A : Type 0} (x : A) → Contains [] x → ⊥
Contains-nil x there = absurd (omega (arith, there.1))

pub Contains-map : {A B : Type 0} (f : A → B) (xs : List A) (x : A) → Contains xs x
    → Contains (map f xs) (f x)
Contains-map f [] x there = absurd (Contains-nil x there)
Contains-map f (y ∷ ys) x there = by (Contains-cases x y ys there) (Contains-map f ys x)
  where
    by : (y ≡ x) ⊎ Contains ys x → (Contains ys x → Contains (map f ys) (f x))
        → Contains (map f (y ∷ ys)) (f x)
    by (inl is) more = Contains-first (f x) (f y) (map f ys) (ap f is)
    by (inr behind) more = Contains-cons (f x) (f y) (map f ys) (more behind)
