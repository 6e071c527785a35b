-- Two lists of which each item goes with one of the other.
use Rattle.std.proofs.Common.{◌≡◌, ◌<◌, Bool, true, false, List, [], ◌∷◌, ◌++◌}
use Rattle.std.proofs.Common.{length, refl, sym, subst, arith}
use Rattle.std.proofs.Common.{Contains, filter, ap, ◌∙◌, if◌then◌else◌, inl, inr, true≢false}
use Rattle.std.specs.Prelude.{◌⊎◌}
use Rattle.std.specs.List.{AllByRecursion, AllZip}
use Rattle.cal_profile.proofs.Lists.{Contains-cases, Contains-cons, Contains-first, Contains-nil}

module _ {A B : Type 0} (R : A → B → Type 0) where
  pub AllZip-append : (xs xs' : List A) (ys ys' : List B) → AllZip R xs ys → AllZip R xs' ys'
      → AllZip R (xs ++ xs') (ys ++ ys')
  AllZip-append [] xs' [] ys' all more = more
  AllZip-append [] xs' (y ∷ ys) ys' all more = absurd all
  AllZip-append (x ∷ xs) xs' [] ys' all more = absurd all
  AllZip-append (x ∷ xs) xs' (y ∷ ys) ys' all more =
      (all.0, AllZip-append xs xs' ys ys' all.1 more)

  -- tests that agree keep items that go together
  pub AllZip-filter : (p : A → Bool) (q : B → Bool) → ((x : A) (y : B) → R x y → p x ≡ q y)
      → (xs : List A) (ys : List B) → AllZip R xs ys → AllZip R (filter p xs) (filter q ys)
  AllZip-filter p q alike [] [] all = tt
  AllZip-filter p q alike [] (y ∷ ys) all = absurd all
  AllZip-filter p q alike (x ∷ xs) [] all = absurd all
  AllZip-filter p q alike (x ∷ xs) (y ∷ ys) all =
      by (p x) (q y) (alike x y all.0) refl refl (AllZip-filter p q alike xs ys all.1)
    where
      by : (a b : Bool) → a ≡ b → p x ≡ a → q y ≡ b → AllZip R (filter p xs) (filter q ys)
          → AllZip R (filter p (x ∷ xs)) (filter q (y ∷ ys))
      by true true same one other rest = rw (one, other) (all.0, rest)
      by false false same one other rest = rw (one, other) rest
      by true false same one other rest = absurd cc
      by false true same one other rest = absurd cc

  -- items that go together, of which the first one passes a test
  pub record Passes (p : A → Bool) : Type 0 where
    pub left : A
    pub right : B
    pub goes : R left right
    pub passes : p left ≡ true

  pub first_passing : (p : A → Bool) (xs : List A) (ys : List B) → AllZip R xs ys
      → 0 < length (filter p xs) → Passes p
  first_passing p [] [] all some = absurd (omega arith)
  first_passing p [] (y ∷ ys) all some = absurd all
  first_passing p (x ∷ xs) [] all some = absurd all
  first_passing p (x ∷ xs) (y ∷ ys) all some = by (p x) refl (first_passing p xs ys all.1)
    where
      by : (b : Bool) → p x ≡ b → (0 < length (filter p xs) → Passes p) → Passes p
      by true is more = record { left = x; right = y; goes = all.0; passes = is }
      by false is more = more (subst
          (λ (b : Bool). 0 < length (if b then x ∷ filter p xs else filter p xs)) is some)

  -- what follows for each item with which one goes that is there
  pub each_right : (Q : B → Type 0) (xs : List A) (ys : List B) → AllZip R xs ys
      → ((x : A) (y : B) → Contains xs x → R x y → Q y) → AllByRecursion Q ys
  each_right Q [] [] all so = tt
  each_right Q [] (y ∷ ys) all so = absurd all
  each_right Q (x ∷ xs) [] all so = absurd all
  each_right Q (x ∷ xs) (y ∷ ys) all so = (
    so x y (Contains-first x x xs refl) all.0,
    each_right Q xs ys all.1 (λ a b there goes. so a b (Contains-cons a x xs there) goes),
  )

  -- one for each item
  pub record Chosen (xs : List A) : Type 0 where
    pub items : List B
    pub zip : AllZip R xs items

  pub chosen : (xs : List A) → ((x : A) → Contains xs x → (y : B) × R x y) → Chosen xs
  chosen [] each = record { items = []; zip = tt }
  chosen (x ∷ xs) each =
      let first = each x (Contains-first x x xs refl) in
      let rest = chosen xs (λ a there. each a (Contains-cons a x xs there)) in
      record { items = first.0 ∷ rest.items; zip = (first.1, rest.zip) }

-- an item that passes a test stands behind one that doesn't
behind : {A : Type 0} (p : A → Bool) (x y : A) (xs : List A) → p x ≡ true → p y ≡ false
    → (y ≡ x) ⊎ Contains xs x → Contains xs x
behind p x y xs passes fails (inl same) =
    absurd (true≢false (sym passes ∙ ap p (sym same) ∙ fails))
behind p x y xs passes fails (inr rest) = rest

-- an item that is there and passes a test is kept
pub kept_some : {A : Type 0} (p : A → Bool) (xs : List A) (x : A) → Contains xs x → p x ≡ true
    → 0 < length (filter p xs)
kept_some p [] x there passes = absurd (Contains-nil x there)
kept_some p (y ∷ ys) x there passes = by (p y) refl (kept_some p ys x)
  where
    by : (b : Bool) → p y ≡ b
        → (Contains ys x → p x ≡ true → 0 < length (filter p ys)) → 0 < length (filter p (y ∷ ys))
    by true e more = rw e (omega arith)
    by false e more =
        rw e (more (behind p x y ys passes e (Contains-cases x y ys there)) passes)
