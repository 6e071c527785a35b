-- What is left of lists, one item or one place on.
use Rattle.std.proofs.Common.{◌≡◌, ℕ, suc, ◌+◌, ◌-◌, ◌<◌, ◌≤◌, List, [], ◌∷◌, ◌++◌, length, get_or}
use Rattle.std.proofs.Common.{take, drop, ap, sym, refl, ◌∙◌, append_assoc, append-nil, ⊎_elim}
use Rattle.std.proofs.Common.{arith}
use Rattle.std.specs.Prelude.{Option, Some, None, flat_map, slice_get, slice_range}
use Rattle.std.proofs.lemmas.Bool.{cases_lt}
use Rattle.std.proofs.lemmas.List.{drop_all, drop_more, take_all}
use Rattle.std.proofs.lemmas.Option.{slice_get-get_or, slice_get_past}
use Rattle.cal_script.specs.declared.journal.Journal.{Journal}
use Rattle.cal_script.specs.declared.journal.Placed.{Placed}
use Rattle.cal_script.specs.declared.script.Script.{Script}
use Rattle.cal_world.specs.Events.{nodes_at, placed_nodes}

module _ {A B : Type 0} (f : A → List B) where
  -- what the item of a place gives, if there is one
  abbrev pub at_place : Option A → List B
  at_place None = []
  at_place (Some x) = f x

  -- what the items of a part give: that of its first place, and those of the others
  pub range-step : (xs : List A) (a b : ℕ) → a < b
      → flat_map f (slice_range xs a b)
      ≡ at_place (slice_get xs a) ++ flat_map f (slice_range xs (a + 1) b)
  range-step xs a b less = ⊎_elim here past (cases_lt a (length xs))
    where
      none : (n k : ℕ) → length xs ≤ k → flat_map f (take n (drop k xs)) ≡ []
      none n k past = ap (λ ys. flat_map f (take n ys)) (drop_all k xs past)
          ∙ ap (flat_map f) (take_all n [] (omega arith))

      past : length xs ≤ a → flat_map f (slice_range xs a b)
          ≡ at_place (slice_get xs a) ++ flat_map f (slice_range xs (a + 1) b)
      past l = none (b - a) a l
          ∙ sym (none (b - (a + 1)) (a + 1) (omega (arith, l)))
          ∙ ap (λ o. at_place o ++ flat_map f (slice_range xs (a + 1) b))
          (sym (slice_get_past xs a l))

      here : a < length xs → flat_map f (slice_range xs a b)
          ≡ at_place (slice_get xs a) ++ flat_map f (slice_range xs (a + 1) b)
      here below = by xs refl
        where
          by : (ys : List A) → ys ≡ xs → flat_map f (slice_range xs a b)
              ≡ at_place (slice_get xs a) ++ flat_map f (slice_range xs (a + 1) b)
          by [] e = absurd (let long = ap length e in omega (arith, long, below))
          by (d ∷ ys) e =
              let left : b - a ≡ suc (b - (a + 1)) = omega (arith, less) in
              ap (λ zs. flat_map f (take (b - a) zs)) (drop_more xs a d below)
              ∙ ap (λ n. flat_map f (take n (get_or xs a d ∷ drop (a + 1) xs))) left
              ∙ ap (λ o. at_place o ++ flat_map f (slice_range xs (a + 1) b))
              (sym (slice_get-get_or xs a d below))

  -- the same behind what is there
  pub range-next : (xs : List A) (a b : ℕ) (had all : List B) → a < b
      → had ++ flat_map f (slice_range xs a b) ≡ all
      → (had ++ at_place (slice_get xs a)) ++ flat_map f (slice_range xs (a + 1) b) ≡ all
  range-next xs a b had all less so_far =
      append_assoc had (at_place (slice_get xs a)) (flat_map f (slice_range xs (a + 1) b))
      ∙ ap (λ ys. had ++ ys) (sym (range-step xs a b less))
      ∙ so_far

  pub range-end : (xs : List A) (a b : ℕ) (had all : List B) → b ≤ a
      → had ++ flat_map f (slice_range xs a b) ≡ all → had ≡ all
  range-end xs a b had all past so_far =
      let left : b - a ≡ 0 = omega (arith, past) in
      sym (append-nil had)
      ∙ ap (λ n. had ++ flat_map f (take n (drop a xs))) (sym left)
      ∙ so_far

  -- what the items that are left give, one item on
  pub left-next : (xs : List A) (i : ℕ) (x : A) (had all : List B) → i < length xs
      → x ≡ get_or xs i x
      → had ++ flat_map f (drop i xs) ≡ all
      → (had ++ f x) ++ flat_map f (drop (i + 1) xs) ≡ all
  left-next xs i x had all below is so_far =
      append_assoc had (f x) (flat_map f (drop (i + 1) xs))
      ∙ ap (λ y. had ++ (f y ++ flat_map f (drop (i + 1) xs))) is
      ∙ ap (λ ys. had ++ flat_map f ys) (sym (drop_more xs i x below))
      ∙ so_far

  pub left-end : (xs : List A) (i : ℕ) (had all : List B) → length xs ≤ i
      → had ++ flat_map f (drop i xs) ≡ all → had ≡ all
  left-end xs i had all past so_far =
      sym (append-nil had)
      ∙ ap (λ ys. had ++ flat_map f ys) (sym (drop_all i xs past))
      ∙ so_far

-- what the operation of a place needs
pub nodes-at : (script : Script) (journal : Journal) (thread : ℕ) (o : Option Placed)
    → nodes_at script journal thread o ≡ at_place (placed_nodes script journal thread) o
nodes-at script journal thread None = refl
nodes-at script journal thread (Some p) = refl
