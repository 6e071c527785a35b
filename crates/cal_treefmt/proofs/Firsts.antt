-- Items in first-seen order: one more of them, and which are there.
use Rattle.std.proofs.Common.{◌≡◌, Bool, true, false, not, if◌then◌else◌, List, [], ◌∷◌, ◌++◌, inl, inr, filter, refl, sym, ap, ◌∙◌, subst, arith, append_assoc, All}
use Rattle.std.specs.Cmp.{IsEquivalence}
use Rattle.std.specs.List.{Contains, list_any}
use Rattle.std.proofs.lemmas.Grind.{common_steps}
use Rattle.std.proofs.lemmas.List.{append-nil}
use Rattle.std.proofs.lemmas.List.Elements.{All-head, All-tail, filter-append}
use Rattle.std.proofs.lemmas.Map.Views.{list_any-from_Contains, Contains-from_any}
use Rattle.cal_context.specs.Lists.{Adds}
use Rattle.cal_treefmt.specs.Nodes.{firsts}

module _ {A : Type 0} {eq : A → A → Bool} (laws : IsEquivalence eq) (same : (x y : A) → eq x y ≡ true → x ≡ y) where
  -- the items of a list that aren't this one
  abbrev without : A → List A → List A
  without h xs = filter (λ other. not (eq other h)) xs

  -- a test that tells equal items alike finds as much where one is out that it doesn't find
  pub list_any-without : (test : A → Bool) (h : A) → test h ≡ false → (xs : List A) → list_any test (without h xs) ≡ list_any test xs
  list_any-without test h other [] = refl
  list_any-without test h other (x ∷ xs) = by (eq x h) refl (list_any-without test h other xs)
    where
      by : (b : Bool) → eq x h ≡ b → list_any test (without h xs) ≡ list_any test xs
          → list_any test (without h (x ∷ xs)) ≡ list_any test (x ∷ xs)
      by true e rest =
          let x_is : test x ≡ test h = ap test (same x h e) in
          grind (arith, e, rest, x_is, other)
      by false e rest = grind (arith, e, rest)

  -- each item of a list is seen first somewhere
  pub list_any-firsts : (test : A → Bool) (gs : List A) → list_any test (firsts eq gs) ≡ list_any test gs
  list_any-firsts test [] = refl
  list_any-firsts test (h ∷ hs) = by (test h) refl (list_any-firsts test hs)
    where
      by : (b : Bool) → test h ≡ b → list_any test (firsts eq hs) ≡ list_any test hs
          → list_any test (firsts eq (h ∷ hs)) ≡ list_any test (h ∷ hs)
      by true e again = grind (arith, e)
      by false e again =
          let rest = list_any-without test h e (firsts eq hs) in
          grind (arith, e, rest, again)

  -- one more item goes last, unless it was seen
  pub firsts-push : (gs : List A) (g : A)
      → firsts eq (gs ++ g ∷ []) ≡ (if list_any (eq g) gs then firsts eq gs else firsts eq gs ++ g ∷ [])
  firsts-push [] g = refl
  firsts-push (h ∷ hs) g = by (eq g h) (list_any (eq g) hs) refl refl (firsts-push hs g)
    where
      by : (a b : Bool) → eq g h ≡ a → list_any (eq g) hs ≡ b
          → firsts eq (hs ++ g ∷ []) ≡ (if list_any (eq g) hs then firsts eq hs else firsts eq hs ++ g ∷ [])
          → firsts eq ((h ∷ hs) ++ g ∷ [])
          ≡ (if list_any (eq g) (h ∷ hs) then firsts eq (h ∷ hs) else firsts eq (h ∷ hs) ++ g ∷ [])
      by a true ea eb rest = grind (arith, common_steps, ea, eb, rest)
      by true false ea eb rest =
          let split = filter-append (λ other. not (eq other h)) (firsts eq hs) (g ∷ []) in
          grind (arith, common_steps, ea, eb, rest, split)
      by false false ea eb rest =
          let split = filter-append (λ other. not (eq other h)) (firsts eq hs) (g ∷ []) in
          grind (arith, common_steps, ea, eb, rest, split)

  -- so what interning gives is what is seen first
  pub firsts-Adds : (gs : List A) (g : A) (old new : List A) → old ≡ firsts eq gs → Adds old g new → new ≡ firsts eq (gs ++ g ∷ [])
  firsts-Adds gs g old new is (inl h) =
      let seen = sym (list_any-firsts (eq g) gs) ∙ ap (list_any (eq g)) (sym is) ∙ list_any-from_Contains laws g old h.0 in
      h.1 ∙ is ∙ sym (firsts-push gs g ∙ ap (λ b. if b then firsts eq gs else firsts eq gs ++ g ∷ []) seen)
  firsts-Adds gs g old new is (inr h) = by (list_any (eq g) gs) refl
    where
      by : (b : Bool) → list_any (eq g) gs ≡ b → new ≡ firsts eq (gs ++ g ∷ [])
      by true e = absurd (h.0 (Contains-from_any same g old (ap (list_any (eq g)) is ∙ list_any-firsts (eq g) gs ∙ e)))
      by false e =
          h.1 ∙ ap (λ xs. xs ++ g ∷ []) is
          ∙ sym (firsts-push gs g ∙ ap (λ b. if b then firsts eq gs else firsts eq gs ++ g ∷ []) e)

  -- items that were seen change nothing
  pub firsts-again : (gs xs : List A) → All (Contains (firsts eq gs)) xs → firsts eq (gs ++ xs) ≡ firsts eq gs
  firsts-again gs [] all = ap (firsts eq) (append-nil gs)
  firsts-again gs (x ∷ xs) all =
      let seen = sym (list_any-firsts (eq x) gs) ∙ list_any-from_Contains laws x (firsts eq gs) (All-head (Contains (firsts eq gs)) x xs all) in
      let once : firsts eq (gs ++ x ∷ []) ≡ firsts eq gs = firsts-push gs x ∙ ap (λ b. if b then firsts eq gs else firsts eq gs ++ x ∷ []) seen in
      ap (firsts eq) (sym (append_assoc gs (x ∷ []) xs))
      ∙ firsts-again (gs ++ x ∷ []) xs (subst (λ (ys : List A). All (Contains ys) xs) (sym once) (All-tail (Contains (firsts eq gs)) x xs all))
      ∙ once
