-- What is kept beside the items of an interned list, place by place.
use Rattle.std.proofs.Common.{◌≡◌, ℕ, zero, suc, ◌<◌, ◌≤◌, List, [], ◌∷◌, ◌++◌, ◌⊎◌, inl, inr, length, get_or, slice_get, Some, map, take, refl, sym, ap, ◌∙◌, subst, arith, Contains}
use Rattle.std.specs.Prelude.{slice_set}
use Rattle.std.proofs.lemmas.Bool.{cases_lt}
use Rattle.std.proofs.lemmas.Grind.{common_steps}
use Rattle.std.proofs.lemmas.List.{length-append, get_or_append_left}
use Rattle.std.proofs.lemmas.Option.{slice_get-get_or, slice_get_within, get_or_from_slice_get}
use Rattle.cal_context.specs.Lists.{AreApart, Adds, Interns}
use Rattle.cal_context.proofs.ListLemmas.{Contains-number}

module _ {A : Type 0} where
  -- an item that was interned stands within the old list, or is the one that was added
  abbrev pub IsPlaced : List A → A → List A → ℕ → Type 0
  IsPlaced old x new n = ((n < length old) × (new ≡ old)) ⊎ ((n ≡ length old) × (new ≡ old ++ x ∷ []) × (Contains old x → ⊥))

  pub placed : (old : List A) (x : A) (new : List A) (n : ℕ) → Interns old x new n → IsPlaced old x new n
  placed old x new n h = by h.adds
    where
      by : Adds old x new → IsPlaced old x new n
      by (inl a) = inl (subst (λ xs. n < length xs) a.1 (slice_get_within new n x h.number), a.1)
      by (inr a) = inr (at (cases_lt n (length old)), a.1, a.0)
        where
          within : n < length (old ++ x ∷ [])
          within = subst (λ xs. n < length xs) a.1 (slice_get_within new n x h.number)

          there : n < length old → slice_get old n ≡ Some x
          there l =
              slice_get-get_or old n x l
              ∙ ap Some (sym (get_or_append_left old (x ∷ []) x n l)
              ∙ ap (λ xs. get_or xs n x) (sym a.1)
              ∙ get_or_from_slice_get new n x x h.number)

          at : (n < length old) ⊎ (length old ≤ n) → n ≡ length old
          at (inl l) = absurd (a.0 (Contains-number old n x (there l)))
          at (inr l) = omega (arith, within, l, length-append old (x ∷ []))

  pub number_within : (old : List A) (x : A) (new : List A) (n : ℕ) → Interns old x new n → n ≤ length old
  number_within old x new n h = by (placed old x new n h)
    where
      by : IsPlaced old x new n → n ≤ length old
      by (inl p) = omega (arith, p.0)
      by (inr p) = omega (arith, p.0)

  -- taking away what was added leaves the old list
  pub truncated : (old : List A) (x : A) (new : List A) (n : ℕ) → Interns old x new n → take (length old) new ≡ old
  truncated old x new n h = by h.adds
    where
      by : Adds old x new → take (length old) new ≡ old
      by (inl a) = rw a.1 (grind (arith, common_steps))
      by (inr a) = rw a.1 (grind (arith, common_steps))

module _ {A : Type 0} where
  -- the tail of a list whose items are apart
  AreApart-tail : (x : A) (xs : List A) → AreApart (x ∷ xs) → AreApart xs
  AreApart-tail x xs apart i j d a b e =
      let h = apart (suc i) (suc j) d (omega (arith, a)) (omega (arith, b)) e in omega (arith, h)

  AreApart-head : (x : A) (xs : List A) → AreApart (x ∷ xs) → (k : ℕ) → k < length xs → get_or xs k x ≡ x → ⊥
  AreApart-head x xs apart k l e =
      let h = apart (suc k) 0 x (omega (arith, l)) (omega arith) e in omega (arith, h)

module _ {A B : Type 0} where
  -- functions that agree at each item map alike
  map_alike : (f g : A → B) (xs : List A) → ((k : ℕ) (d : A) → k < length xs → f (get_or xs k d) ≡ g (get_or xs k d)) → map f xs ≡ map g xs
  map_alike f g [] h = refl
  map_alike f g (x ∷ xs) h =
      let first : f x ≡ g x = h 0 x (omega arith) in
      let rest = map_alike f g xs (λ k d l. h (suc k) d (omega (arith, l))) in
      λ j. first j ∷ rest j

  -- what is kept of an item is written anew, and that of all others stays
  pub map-slice_set : (f g : A → B) (xs : List A) (n : ℕ) (x : A) (y : B)
      → AreApart xs → slice_get xs n ≡ Some x → y ≡ g x
      → ((z : A) → (z ≡ x → ⊥) → g z ≡ f z)
      → slice_set (map f xs) n y ≡ map g xs
  map-slice_set f g [] n x y apart at is others = cc
  map-slice_set f g (z ∷ zs) zero x y apart at is others =
      let z_is : z ≡ x = cc in
      let first : y ≡ g z = is ∙ ap g (sym z_is) in
      let rest = map_alike f g zs (λ k d l. sym (others (get_or zs k d) (λ e.
      AreApart-head z zs apart k l (grind (arith, common_steps, l, e, z_is))))) in
      λ j. first j ∷ rest j
  map-slice_set f g (z ∷ zs) (suc n) x y apart at is others =
      let there = slice_get_within zs n x at in
      let other : z ≡ x → ⊥ = λ e. AreApart-head z zs apart n there
      (get_or_from_slice_get zs n x z at ∙ sym e) in
      let first : f z ≡ g z = sym (others z other) in
      let rest = map-slice_set f g zs n x y (AreApart-tail z zs apart) at is others in
      λ j. first j ∷ rest j

  -- and one that is added gets what is kept of it
  pub map-push : (f g : A → B) (xs : List A) (x : A) (y : B)
      → (Contains xs x → ⊥) → y ≡ g x
      → ((z : A) → (z ≡ x → ⊥) → g z ≡ f z)
      → map f xs ++ y ∷ [] ≡ map g (xs ++ x ∷ [])
  map-push f g [] x y new is others = λ j. is j ∷ []
  map-push f g (z ∷ zs) x y new is others =
      let first : f z ≡ g z = sym (others z (λ e. new (0, omega arith, e))) in
      let rest = map-push f g zs x y (λ h. new (suc h.0, omega (arith, h.1), h.2)) is others in
      λ j. first j ∷ rest j
