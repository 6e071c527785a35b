-- Lists of words that were seen, and lists of places.
use Rattle.std.proofs.Common.{◌≡◌, ◌⊎◌, ℕ, zero, suc, ◌+◌, ◌<◌, Bool, true, eqb, ◌||◌, Option, List, [], ◌∷◌, ◌++◌, length, get_or, sym, refl, ap, subst, inl, inr, ⊎_elim, arith}
use mathlib.Core.Logic.{dite}
use mathlib.Core.Option.{some}
use native.Mathlib.Decide.{ℕ_discrete}
use lib.ListN.{get_elem?}
use Rattle.std.proofs.lemmas.Bool.{eq-eqb, ne_eqb, or_right}
use Rattle.cal_once.specs.Layout.{times}
use Rattle.cal_once.specs.Views.{Saw, was_seen, placed, joined_with}

pub Saw_left : (xs ys : List (ℕ × ℕ)) (i x : ℕ) → Saw xs i x → Saw (xs ++ ys) i x
Saw_left [] ys i x h = absurd h
Saw_left (e ∷ es) ys i x h = ⊎_elim inl (λ t. inr (Saw_left es ys i x t)) h

pub Saw_right : (xs ys : List (ℕ × ℕ)) (i x : ℕ) → Saw ys i x → Saw (xs ++ ys) i x
Saw_right [] ys i x h = h
Saw_right (e ∷ es) ys i x h = inr (Saw_right es ys i x h)

pub Saw_either : (xs ys : List (ℕ × ℕ)) (i x : ℕ) → Saw (xs ++ ys) i x → Saw xs i x ⊎ Saw ys i x
Saw_either [] ys i x h = inr h
Saw_either (e ∷ es) ys i x h = ⊎_elim (λ t. inl (inl t)) (λ t. ⊎_elim (λ u. inl (inr u)) inr (Saw_either es ys i x t)) h

-- what was seen was seen to be something
pub was_seen_from : (es : List (ℕ × ℕ)) (i x : ℕ) → Saw es i x → was_seen es i ≡ true
was_seen_from [] i x h = absurd h
was_seen_from (e ∷ es) i x h = ⊎_elim (λ t. ap (λ (b : Bool). b || was_seen es i) (eq-eqb e.0 i t.0)) (λ t. or_right (eqb e.0 i) (was_seen es i) (was_seen_from es i x t)) h

pub seen_to_be : (es : List (ℕ × ℕ)) (i : ℕ) → was_seen es i ≡ true → (x : ℕ) × Saw es i x
seen_to_be [] i h = absurd (cc)
seen_to_be (e ∷ es) i h = dite (ℕ_discrete e.0 i) (λ is. (e.1, inl (is, refl)))
    (λ not. let r = seen_to_be es i (subst (λ (b : Bool). (b || was_seen es i) ≡ true) (ne_eqb e.0 i not) h) in (r.0, inr r.1))

-- the words of a record that was placed
pub Saw_placed : (start : ℕ) (ws : List ℕ) (k : ℕ) → k < length ws → Saw (placed start ws) (start + k) (get_or ws k 0)
Saw_placed start [] k h = absurd (omega arith)
Saw_placed start (w ∷ ws) zero h = inl (omega arith, refl)
Saw_placed start (w ∷ ws) (suc k) h = inr (let e : start + 1 + k ≡ start + suc k = omega arith in subst (λ (i : ℕ). Saw (placed (start + 1) ws) i (get_or ws k 0)) e (Saw_placed (start + 1) ws k (omega arith)))

pub placed_at : (start : ℕ) (ws : List ℕ) (i x : ℕ) → Saw (placed start ws) i x → (k : ℕ) × (k < length ws) × (i ≡ start + k) × (x ≡ get_or ws k 0)
placed_at start [] i x h = absurd h
placed_at start (w ∷ ws) i x h = ⊎_elim (λ t. let a = t.0 in (0, omega arith, omega arith, sym t.1))
    (λ t. let r = placed_at (start + 1) ws i x t in let a = r.1 in let b = r.2 in (suc r.0, omega arith, omega arith, r.3)) h

pub times-append : (p : ℕ) (xs ys : List ℕ) → times p (xs ++ ys) ≡ times p xs + times p ys
times-append p [] ys = omega arith
times-append p (x ∷ xs) ys = let r = times-append p xs ys in omega arith

-- an element of a list with one more at its end
pub at_end : {A : Type 0} (l : List A) (a b : A) (j : ℕ) → get_elem? (l ++ a ∷ []) j ≡ some b → ((get_elem? l j ≡ some b) × (j < length l)) ⊎ ((a ≡ b) × (j ≡ length l))
at_end [] a b zero e = inr (cc, refl)
at_end [] a b (suc j) e = absurd cc
at_end (x ∷ xs) a b zero e = inl (e, omega arith)
at_end (x ∷ xs) a b (suc j) e = ⊎_elim (λ t. let h = t.1 in inl (t.0, omega arith)) (λ t. inr (t.0, ap suc t.1)) (at_end xs a b j e)

pub at_below : {A : Type 0} (l : List A) (a : A) (j : ℕ) → get_elem? l j ≡ some a → j < length l
at_below [] a j e = absurd cc
at_below (x ∷ xs) a zero e = omega arith
at_below (x ∷ xs) a (suc j) e = let r = at_below xs a j e in omega arith

pub length-joined : (os : List (Option (List ℕ))) (n : ℕ) (places : List ℕ) → length (joined_with os n places) ≡ length os
length-joined [] n places = refl
length-joined (o ∷ os) zero places = refl
length-joined (o ∷ os) (suc n) places = ap suc (length-joined os n places)
