-- Channel by channel, what each has is changed.
use Rattle.std.proofs.Common.{◌≡◌, ℕ, ◌+◌, ◌<◌, ◌≤◌, List, [], ◌∷◌, ◌++◌, length, map, take, drop}
use Rattle.std.proofs.Common.{get_or, set, sym, ◌∙◌, arith, append_assoc, append-nil}
use Rattle.std.specs.Prelude.{zip}
use Rattle.std.proofs.lemmas.List.{drop-set-lt, drop_all, drop_more, take_all, take_more_set}

module _ {A B : Type 0} (f : A × B → B) (cs : List A) where
  -- the items that are changed, and those that are left to change
  abbrev pub changed_to : (i : ℕ) → List B → List B
  changed_to i hs = take i hs ++ map f (zip (drop i cs) (drop i hs))

  pub changed-next : (i : ℕ) (hs all : List B) (c : A) (h : B) → i < length hs
      → i < length cs → changed_to i hs ≡ all
      → changed_to (i + 1) (set hs i (f (get_or cs i c, get_or hs i h))) ≡ all
  changed-next i hs all c h below inside so_far =
      let y : B = f (get_or cs i c, get_or hs i h) in
      (λ j. take_more_set hs i y below j
      ++ map f (zip (drop (i + 1) cs) (drop-set-lt (i + 1) hs i y (omega arith) j)))
      ∙ append_assoc (take i hs) (y ∷ []) (map f (zip (drop (i + 1) cs) (drop (i + 1) hs)))
      ∙ sym (λ j. take i hs ++ map f (zip (drop_more cs i c inside j) (drop_more hs i h below j)))
      ∙ so_far

  pub changed-end : (i : ℕ) (hs all : List B) → length hs ≤ i → length cs ≤ i
      → changed_to i hs ≡ all → hs ≡ all
  changed-end i hs all past gone so_far =
      sym ((λ j. take_all i hs past j ++ map f (zip (drop_all i cs gone j) (drop i hs)))
      ∙ append-nil hs)
      ∙ so_far

-- an item of a list that has some
pub some-item : {A : Type 0} (xs : List A) (i : ℕ) → i < length xs → A
some-item [] i below = absurd (omega (arith, below))
some-item (x ∷ xs) i below = x
