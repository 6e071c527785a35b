-- Texts, each once, where they are first seen.
use Rattle.std.proofs.Common.{◌≡◌, ℕ, Bool, true, false, cond, not, List, [], ◌∷◌, ◌++◌, ◌⊎◌, inl, inr, refl, sym, ap, ◌∙◌, subst, filter, All}
use Rattle.std.specs.List.{list_any}
use Rattle.std.proofs.lemmas.List.{append-nil}
use Rattle.std.specs.Cmp.Lexicographic.{bytes_decides}
use Rattle.std.proofs.lemmas.List.Elements.{All-cons, All-head, All-tail, All-nil, filter-append}
use Rattle.cal_rowset.specs.Texts.{is_same, first_seen}

-- which way a test went
pub either_way : (b : Bool) → (b ≡ true) ⊎ (b ≡ false)
either_way true = inl refl
either_way false = inr refl

-- the test of two texts
pub same_text : (x y : List ℕ) → is_same x y ≡ true → x ≡ y
same_text x y = (bytes_decides x y).0

pub is_same-refl : (x : List ℕ) → is_same x x ≡ true
is_same-refl x = (bytes_decides x x).1 refl

pub is_same-other : (x y : List ℕ) → (x ≡ y → ⊥) → is_same x y ≡ false
is_same-other x y apart =
    elim (either_way (is_same x y)) [
      | inl same ↦ absurd (apart (same_text x y same))
      | inr other ↦ other
    ]

-- the texts that aren't this one
abbrev pub without : List ℕ → List (List ℕ) → List (List ℕ)
without x = filter (λ other. not (is_same other x))

without-last : (x y : List ℕ) (b : Bool) (seen : List (List ℕ)) → is_same y x ≡ true → without x (cond b seen (seen ++ y ∷ [])) ≡ without x seen
without-last x y true seen same = refl
without-last x y false seen same =
    filter-append (λ other. not (is_same other x)) seen (y ∷ []) ∙ rw same (append-nil (without x seen))

without-other : (x y : List ℕ) (b : Bool) (seen : List (List ℕ)) → is_same y x ≡ false
    → x ∷ without x (cond b seen (seen ++ y ∷ [])) ≡ cond b (x ∷ without x seen) ((x ∷ without x seen) ++ y ∷ [])
without-other x y true seen other = refl
without-other x y false seen other = ap (λ (texts : List (List ℕ)). x ∷ texts) (filter-append (λ text. not (is_same text x)) seen (y ∷ []) ∙ rw other refl)

-- one text more is seen where none of those before is the same
pub first_seen-push : (xs : List (List ℕ)) (y : List ℕ) → first_seen (xs ++ y ∷ []) ≡ cond (list_any (is_same y) xs) (first_seen xs) (first_seen xs ++ y ∷ [])
first_seen-push [] y = refl
first_seen-push (x ∷ xs) y =
    elim (either_way (is_same y x)) [
      | inl same ↦ rw (first_seen-push xs y, same) (ap (λ (texts : List (List ℕ)). x ∷ texts) (without-last x y (list_any (is_same y) xs) (first_seen xs) same))
      | inr other ↦ rw (first_seen-push xs y, other) (without-other x y (list_any (is_same y) xs) (first_seen xs) other)
    ]

-- what holds of the texts that are seen holds of all
module _ (P : List ℕ → Type 0) where
  All-without : (x : List ℕ) (xs : List (List ℕ)) → P x → All P (without x xs) → All P xs
  All-without x [] is all = All-nil P
  All-without x (y ∷ xs) is all =
      elim (either_way (is_same y x)) [
        | inl same ↦ (
            let rest : All P (without x xs) = rw same at all in
            All-cons P y xs (subst P (sym (same_text y x same)) is) (All-without x xs is rest))
        | inr other ↦ (
            let rest : All P (y ∷ without x xs) = rw other at all in
            All-cons P y xs (All-head P y (without x xs) rest) (All-without x xs is (All-tail P y (without x xs) rest)))
      ]

  pub All-first_seen : (xs : List (List ℕ)) → All P (first_seen xs) → All P xs
  All-first_seen [] all = All-nil P
  All-first_seen (x ∷ xs) all =
      let is = All-head P x (without x (first_seen xs)) all in
      All-cons P x xs is (All-first_seen xs (All-without x (first_seen xs) is (All-tail P x (without x (first_seen xs)) all)))
