-- A fact of each item of each list, as of each node of each key, and of all items one behind
-- another.
use Rattle.std.proofs.Common.{◌<◌, ◌≤◌, ℕ, zero, suc, List, [], ◌∷◌, ◌++◌, length, get_or, arith}
use Rattle.std.proofs.lemmas.List.{length-append}
use Rattle.std.proofs.lemmas.List.Elements.{All-append, All-from_recursion, recursion_from_All}
use Rattle.std.specs.List.{All, AllByRecursion, flat_map}

module _ {A B : Type 0} (f : A → List B) where
  module _ (P : B → Type 0) where
    both_parts : (xs ys : List B) → AllByRecursion P (xs ++ ys)
        → AllByRecursion P xs × AllByRecursion P ys
    both_parts [] ys h = (tt, h)
    both_parts (x ∷ xs) ys h = let rest = both_parts xs ys h.1 in ((h.0, rest.0), rest.1)

    joined_items : (lists : List A) → AllByRecursion (λ (list : A). All P (f list)) lists
        → All P (flat_map f lists)
    joined_items [] h = All-from_recursion P [] tt
    joined_items (list ∷ lists) h =
        All-append P (f list) (flat_map f lists) h.0 (joined_items lists h.1)

    parted_items : (lists : List A) → AllByRecursion P (flat_map f lists)
        → AllByRecursion (λ (list : A). All P (f list)) lists
    parted_items [] h = tt
    parted_items (list ∷ lists) h =
        let parts = both_parts (f list) (flat_map f lists) h in
        (All-from_recursion P (f list) parts.0, parted_items lists parts.1)

    -- of each item of each list, so of the items of all
    pub all_items : (lists : List A) → All (λ (list : A). All P (f list)) lists
        → All P (flat_map f lists)
    all_items lists h =
        joined_items lists (recursion_from_All (λ (list : A). All P (f list)) lists h)

    -- and back
    pub each_list : (lists : List A) → All P (flat_map f lists)
        → All (λ (list : A). All P (f list)) lists
    each_list lists h = All-from_recursion (λ (list : A). All P (f list)) lists
        (parted_items lists (recursion_from_All P (flat_map f lists) h))

  front_within : (xs ys : List B) → length xs ≤ length (xs ++ ys)
  front_within xs ys = let long = length-append xs ys in omega (arith, long)

  back_within : (n : ℕ) (xs ys : List B) → n ≤ length ys → n ≤ length (xs ++ ys)
  back_within n xs ys h = let long = length-append xs ys in omega (arith, long, h)

  -- none is longer than all together
  pub list_within : (lists : List A) (i : ℕ) (d : A) → i < length lists
      → length (f (get_or lists i d)) ≤ length (flat_map f lists)
  list_within [] i d less = absurd (omega arith)
  list_within (list ∷ lists) zero d less = front_within (f list) (flat_map f lists)
  list_within (list ∷ lists) (suc i) d less = back_within (length (f (get_or lists i d))) (f list)
      (flat_map f lists) (list_within lists i d (omega arith))
