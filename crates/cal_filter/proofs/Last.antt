-- The last item of a list that passes a test.
use Rattle.std.proofs.Common.{◌≡◌, true, false, List, [], ◌∷◌, ◌++◌}
use Rattle.std.proofs.Common.{Option, None, Some, refl, sym, ◌∙◌, ap}
use Rattle.std.specs.List.{filter, last_or}
use Rattle.std.specs.Option.{option_or}
use Rattle.std.proofs.lemmas.List.Elements.{filter-append}
use Rattle.cal_value.specs.declared.attribute.Entry.{Entry}
use Rattle.cal_filter.specs.Sought.{Sought, last_sought, seeks}

module _ {A : Type 0} where
  last_or-append : (o : Option A) (xs ys : List A) → last_or o (xs ++ ys) ≡ last_or (last_or o xs) ys
  last_or-append o [] ys = refl
  last_or-append o (x ∷ xs) ys = last_or-append (Some x) xs ys

  last_or-Some : (x : A) (xs : List A) (o : Option A)
      → option_or (last_or (Some x) xs) o ≡ last_or (Some x) xs
  last_or-Some x [] o = refl
  last_or-Some x (y ∷ ys) o = last_or-Some y ys o

  last_or-or : (o : Option A) (xs : List A) → last_or o xs ≡ option_or (last_or None xs) o
  last_or-or o [] = refl
  last_or-or o (x ∷ xs) = sym (last_or-Some x xs o)

  -- the last item of two lists is the second one's, if it has one
  pub last-append : (xs ys : List A)
      → last_or None (xs ++ ys) ≡ option_or (last_or None ys) (last_or None xs)
  last-append xs ys = last_or-append None xs ys ∙ last_or-or (last_or None xs) ys

  -- the last item of a list that ends with it
  pub last-end : (xs : List A) (x : A) → last_or None (xs ++ x ∷ []) ≡ Some x
  last-end xs x = last_or-append None xs (x ∷ [])

  -- an item that isn't there hides no other
  pub last_not_empty : (x : A) (xs : List A) (o : Option A)
      → option_or (last_or None (x ∷ xs)) o ≡ last_or None (x ∷ xs)
  last_not_empty x xs o = last_or-Some x xs o

module _ (s : Sought) where
  -- the last one sought of two lists
  pub last_sought-append : (xs ys : List Entry)
      → last_sought s (xs ++ ys) ≡ option_or (last_sought s ys) (last_sought s xs)
  last_sought-append xs ys =
      ap (last_or None) (filter-append (seeks s) xs ys)
      ∙ last-append (filter (seeks s) xs) (filter (seeks s) ys)

  -- the last one of a list that ends with an entry that is sought
  pub sought_end : (xs : List Entry) (e : Entry) → seeks s e ≡ true
      → last_sought s (xs ++ e ∷ []) ≡ Some e
  sought_end xs e is = last_sought-append xs (e ∷ []) ∙ rw is

  -- and of one that ends with another
  pub other_end : (xs : List Entry) (e : Entry) → seeks s e ≡ false
      → last_sought s (xs ++ e ∷ []) ≡ last_sought s xs
  other_end xs e isnt = last_sought-append xs (e ∷ []) ∙ rw isnt
