use Rattle.std.proofs.Common.{◌≡◌, ℕ, suc, ◌<◌, ◌≤◌, Bool, true, false, List, [], ◌∷◌, ◌++◌, ◌⊎◌, inl, inr, length, get_or, slice_get, position, Some, map, fold, refl, sym, ap, ◌∙◌, subst, arith, true≢false, if◌then◌else◌, Contains}
use Rattle.std.specs.Cmp.{IsEquivalence}
use Rattle.std.specs.List.{list_any, IsDistinct}
use Rattle.std.proofs.lemmas.Bool.{cases_lt}
use Rattle.std.proofs.lemmas.Grind.{common_steps}
use Rattle.std.proofs.lemmas.List.{length-append, get_or_append_left, get_or_push}
use Rattle.std.proofs.lemmas.List.Quantifiers.{position-Some}
use Rattle.std.proofs.lemmas.Map.Keys.{apart_from_distinct}
use Rattle.std.proofs.lemmas.Map.Views.{list_any-from_Contains, Contains-from_any}
use Rattle.std.proofs.lemmas.Option.{slice_get-get_or, slice_get_within, get_or_from_slice_get}
use Rattle.indexmap.specs.IndexSet.{insert_key}
use Rattle.cal_context.specs.Lists.{AreApart, IsFront, Adds}

-- ---- what a set's `==` says, where it is sameness

module _ {A : Type 0} {eq : A → A → Bool} (laws : IsEquivalence eq) (same : (x y : A) → eq x y ≡ true → x ≡ y) where
  -- a set's keys with one more inserted
  pub Adds-insert_key : (xs : List A) (x : A) (new : List A) → new ≡ insert_key eq xs x → Adds xs x new
  Adds-insert_key xs x new e = by (list_any (eq x) xs) refl
    where
      by : (b : Bool) → list_any (eq x) xs ≡ b → Adds xs x new
      by true h = inl (Contains-from_any same x xs h, e ∙ ap (λ b. if b then xs else xs ++ x ∷ []) h)
      by false h = inr (λ there. true≢false (sym (list_any-from_Contains laws x xs there) ∙ h), e ∙ ap (λ b. if b then xs else xs ++ x ∷ []) h)

  -- the key that a look-up finds is the one that was looked up
  pub number_of_equal : (xs : List A) (n : ℕ) (x k : A) → slice_get xs n ≡ Some k → eq x k ≡ true → slice_get xs n ≡ Some x
  number_of_equal xs n x k at e = at ∙ ap Some (sym (same x k e))

  pub number_of_position : (xs : List A) (n : ℕ) (x : A) → Some n ≡ position (eq x) xs → slice_get xs n ≡ Some x
  number_of_position xs n x e =
      let p = position-Some (eq x) xs n x (sym e) in
      slice_get-get_or xs n x p.0 ∙ ap Some (sym (same x (get_or xs n x) p.1))

  -- distinct keys are apart
  pub AreApart-from_distinct : (xs : List A) → IsDistinct eq xs → AreApart xs
  AreApart-from_distinct xs h i j d a b e = by (cases_lt i j) (cases_lt j i)
    where
      less : (k l : ℕ) → get_or xs k d ≡ get_or xs l d → k < l → l < length xs → i ≡ j
      less k l s g f = absurd (true≢false (sym (laws.refl (get_or xs k d)) ∙ ap (eq (get_or xs k d)) s ∙ apart_from_distinct eq xs k l d h g f))

      by : ((i < j) ⊎ (j ≤ i)) → ((j < i) ⊎ (i ≤ j)) → i ≡ j
      by (inl g) _ = less i j e g b
      by (inr g) (inl l) = less j i (sym e) l a
      by (inr g) (inr l) = omega (arith, g, l)

-- ---- adding keeps what was there

module _ {A : Type 0} where
  pub IsFront-refl : (xs : List A) → IsFront xs xs
  IsFront-refl xs = ([], grind (arith, common_steps))

  pub IsFront-trans : (xs ys zs : List A) → IsFront xs ys → IsFront ys zs → IsFront xs zs
  IsFront-trans xs ys zs h g = (h.0 ++ g.0, grind (arith, common_steps, h.1, g.1))

  pub IsFront-same : (xs ys : List A) → ys ≡ xs → IsFront xs ys
  IsFront-same xs ys e = ([], grind (arith, common_steps, e))

  pub IsFront-Adds : (xs : List A) (x : A) (ys : List A) → Adds xs x ys → IsFront xs ys
  IsFront-Adds xs x ys (inl h) = IsFront-same xs ys h.1
  IsFront-Adds xs x ys (inr h) = (x ∷ [], h.1)

  -- what stood at a number stays there
  pub get_or-IsFront : (xs ys : List A) (n : ℕ) (d : A) → IsFront xs ys → n < length xs → get_or ys n d ≡ get_or xs n d
  get_or-IsFront xs ys n d h l = ap (λ zs. get_or zs n d) h.1 ∙ get_or_append_left xs h.0 d n l

  pub length-IsFront : (xs ys : List A) → IsFront xs ys → length xs ≤ length ys
  length-IsFront xs ys h = grind (arith, common_steps, h.1)

  pub slice_get-IsFront : (xs ys : List A) (n : ℕ) (x : A) → IsFront xs ys → slice_get xs n ≡ Some x → slice_get ys n ≡ Some x
  slice_get-IsFront xs ys n x h e =
      let l = slice_get_within xs n x e in
      let within : n < length ys = omega (arith, l, length-IsFront xs ys h) in
      slice_get-get_or ys n x within ∙ ap Some (get_or-IsFront xs ys n x h l ∙ get_or_from_slice_get xs n x x e)

  -- an item that isn't there keeps a list's items apart
  pub AreApart-push : (xs : List A) (x : A) → AreApart xs → ¬ Contains xs x → AreApart (xs ++ x ∷ [])
  AreApart-push xs x apart new i j d h g e = by (cases_lt i (length xs)) (cases_lt j (length xs))
    where
      at : (k : ℕ) → k < length xs → get_or (xs ++ x ∷ []) k d ≡ get_or xs k d
      at k l = get_or_append_left xs (x ∷ []) d k l

      last : (k : ℕ) → length xs ≤ k → k < length (xs ++ x ∷ []) → (length xs ≡ k) × (get_or (xs ++ x ∷ []) k d ≡ x)
      last k l m = let is : length xs ≡ k = omega (arith, l, m, length-append xs (x ∷ [])) in (is, get_or_push xs x d k is)

      there : (k : ℕ) → k < length xs → get_or xs k d ≡ x → Contains xs x
      there k l s = (k, l, grind (arith, common_steps, l, s))

      by : ((i < length xs) ⊎ (length xs ≤ i)) → ((j < length xs) ⊎ (length xs ≤ j)) → i ≡ j
      by (inl a) (inl b) = apart i j d a b (sym (at i a) ∙ e ∙ at j b)
      by (inl a) (inr b) = absurd (new (there i a (sym (at i a) ∙ e ∙ (last j b g).1)))
      by (inr a) (inl b) = absurd (new (there j b (sym (at j b) ∙ sym e ∙ (last i a h).1)))
      by (inr a) (inr b) = sym (last i a h).0 ∙ (last j b g).0

  pub AreApart-Adds : (xs : List A) (x : A) (ys : List A) → AreApart xs → Adds xs x ys → AreApart ys
  AreApart-Adds xs x ys apart (inl h) = subst AreApart (sym h.1) apart
  AreApart-Adds xs x ys apart (inr h) = subst AreApart (sym h.1) (AreApart-push xs x apart h.0)

  pub Contains-number : (xs : List A) (n : ℕ) (x : A) → slice_get xs n ≡ Some x → Contains xs x
  Contains-number xs n x e = (n, slice_get_within xs n x e, get_or_from_slice_get xs n x x e)

module _ {A B : Type 0} where
  -- functions that agree at each item map alike
  pub map-alike : (f g : A → B) (xs : List A) → ((k : ℕ) (d : A) → k < length xs → f (get_or xs k d) ≡ g (get_or xs k d)) → map f xs ≡ map g xs
  map-alike f g [] h = refl
  map-alike f g (x ∷ xs) h =
      let first : f x ≡ g x = h 0 x (omega arith) in
      let rest = map-alike f g xs (λ k d l. h (suc k) d (omega (arith, l))) in
      λ j. first j ∷ rest j

  -- and so do steps that agree at each item, whatever came before
  pub fold-alike : (f g : B → A → B) (b : B) (xs : List A) → ((k : ℕ) (x : A) → slice_get xs k ≡ Some x → (c : B) → f c x ≡ g c x) → fold f b xs ≡ fold g b xs
  fold-alike f g b [] h = refl
  fold-alike f g b (x ∷ xs) h =
      ap (λ c. fold f c xs) (h 0 x refl b) ∙ fold-alike f g (g b x) xs (λ k y e c. h (suc k) y e c)
