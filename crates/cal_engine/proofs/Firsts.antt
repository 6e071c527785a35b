-- Items in first-seen order: one more of them, and which are there.
use Rattle.std.proofs.Common.{◌≡◌, Bool, true, false, not, if◌then◌else◌, List, [], ◌∷◌, ◌++◌, inl, inr, filter, refl, sym, ap, ◌∙◌, arith}
use Rattle.std.specs.Cmp.{IsEquivalence}
use Rattle.std.specs.List.{list_any}
use Rattle.std.proofs.lemmas.Grind.{common_steps}
use Rattle.std.proofs.lemmas.List.Elements.{filter-append}
use Rattle.std.proofs.lemmas.Map.Views.{list_any-from_Contains, Contains-from_any}
use Rattle.cal_context.specs.Lists.{Adds}
use Rattle.cal_keys.specs.FirstSeen.{firsts}

module _ {A : Type 0} {eq : A → A → Bool} (laws : IsEquivalence eq) (same : (x y : A) → eq x y ≡ true → x ≡ y) where
  -- the items of a list that aren't this one
  abbrev pub without : A → List A → List A
  without h xs = filter (λ other. not (eq other h)) xs

  -- taking an item out doesn't touch another
  pub list_any-without : (g h : A) → eq g h ≡ false → (xs : List A) → list_any (eq g) (without h xs) ≡ list_any (eq g) xs
  list_any-without g h other [] = refl
  list_any-without g h other (x ∷ xs) = by (eq x h) refl (list_any-without g h other xs)
    where
      by : (b : Bool) → eq x h ≡ b → list_any (eq g) (without h xs) ≡ list_any (eq g) xs
          → list_any (eq g) (without h (x ∷ xs)) ≡ list_any (eq g) (x ∷ xs)
      by true e rest =
          let x_is : eq g x ≡ eq g h = ap (eq g) (same x h e) in
          grind (arith, e, rest, x_is, other)
      by false e rest = grind (arith, e, rest)

  -- each item of a list is seen first somewhere
  pub list_any-firsts : (g : A) (gs : List A) → list_any (eq g) (firsts eq gs) ≡ list_any (eq g) gs
  list_any-firsts g [] = refl
  list_any-firsts g (h ∷ hs) = by (eq g h) refl (list_any-firsts g hs)
    where
      by : (b : Bool) → eq g h ≡ b → list_any (eq g) (firsts eq hs) ≡ list_any (eq g) hs
          → list_any (eq g) (firsts eq (h ∷ hs)) ≡ list_any (eq g) (h ∷ hs)
      by true e again = grind (arith, e)
      by false e again =
          let rest = list_any-without g h e (firsts eq hs) in
          grind (arith, e, rest, again)

  -- one more item goes last, unless it was seen
  pub firsts-push : (gs : List A) (g : A)
      → firsts eq (gs ++ g ∷ []) ≡ (if list_any (eq g) gs then firsts eq gs else firsts eq gs ++ g ∷ [])
  firsts-push [] g = refl
  firsts-push (h ∷ hs) g = by (eq g h) (list_any (eq g) hs) refl refl (firsts-push hs g)
    where
      by : (a b : Bool) → eq g h ≡ a → list_any (eq g) hs ≡ b
          → firsts eq (hs ++ g ∷ []) ≡ (if list_any (eq g) hs then firsts eq hs else firsts eq hs ++ g ∷ [])
          → firsts eq ((h ∷ hs) ++ g ∷ [])
          ≡ (if list_any (eq g) (h ∷ hs) then firsts eq (h ∷ hs) else firsts eq (h ∷ hs) ++ g ∷ [])
      by a true ea eb rest = grind (arith, common_steps, ea, eb, rest)
      by true false ea eb rest =
          let split = filter-append (λ other. not (eq other h)) (firsts eq hs) (g ∷ []) in
          grind (arith, common_steps, ea, eb, rest, split)
      by false false ea eb rest =
          let split = filter-append (λ other. not (eq other h)) (firsts eq hs) (g ∷ []) in
          grind (arith, common_steps, ea, eb, rest, split)

  -- so what interning gives is what is seen first
  pub firsts-Adds : (gs : List A) (g : A) (old new : List A) → old ≡ firsts eq gs → Adds old g new → new ≡ firsts eq (gs ++ g ∷ [])
  firsts-Adds gs g old new is (inl h) =
      let seen = sym (list_any-firsts g gs) ∙ ap (list_any (eq g)) (sym is) ∙ list_any-from_Contains laws g old h.0 in
      h.1 ∙ is ∙ sym (firsts-push gs g ∙ ap (λ b. if b then firsts eq gs else firsts eq gs ++ g ∷ []) seen)
  firsts-Adds gs g old new is (inr h) = by (list_any (eq g) gs) refl
    where
      by : (b : Bool) → list_any (eq g) gs ≡ b → new ≡ firsts eq (gs ++ g ∷ [])
      by true e = absurd (h.0 (Contains-from_any same g old (ap (list_any (eq g)) is ∙ list_any-firsts g gs ∙ e)))
      by false e =
          h.1 ∙ ap (λ xs. xs ++ g ∷ []) is
          ∙ sym (firsts-push gs g ∙ ap (λ b. if b then firsts eq gs else firsts eq gs ++ g ∷ []) e)
