-- Counting the filled slots.
use Rattle.std.proofs.Common.{◌≡◌, ◌≢◌, ℕ, zero, suc, ◌+◌, ◌<◌, ◌≤◌, Bool, false, cond, eqb, ◌||◌, List, [], ◌∷◌, length, refl, ap, ◌∙◌, ⊎_elim, arith}
use mathlib.Core.Logic.{dite}
use native.Mathlib.Decide.{ℕ_discrete}
use Rattle.std.proofs.lemmas.Bool.{cases_lt, eq-eqb, ne_eqb}
use Rattle.cal_once.specs.declared.view.View.{View}
use Rattle.cal_once.specs.Layout.{times}
use Rattle.cal_once.specs.Views.{was_seen, known_count, looked}
use Rattle.cal_once.proofs.Learning.{looked_filled}

-- f 0 + .. + f (n - 1)
abbrev pub sum_below : (ℕ → ℕ) → ℕ → ℕ
sum_below f zero = 0
sum_below f (suc n) = sum_below f n + f n

sum_below-add : (f h : ℕ → ℕ) (n : ℕ) → sum_below (λ p. f p + h p) n ≡ sum_below f n + sum_below h n
sum_below-add f h zero = refl
sum_below-add f h (suc n) = let r = sum_below-add f h n in omega arith

-- a number is met once among the first n, where it is one of them
sum_below-none : (x n : ℕ) → n ≤ x → sum_below (λ p. times p (x ∷ [])) n ≡ 0
sum_below-none x zero h = refl
sum_below-none x (suc n) h = let rest = sum_below-none x n (omega arith) in let here : times n (x ∷ []) ≡ 0 = ap (λ (b : Bool). cond b 1 0 + 0) (ne_eqb x n (λ e. omega arith)) in omega arith

sum_below-one : (x n : ℕ) → x < n → sum_below (λ p. times p (x ∷ [])) n ≡ 1
sum_below-one x zero h = absurd (omega arith)
sum_below-one x (suc n) h = dite (ℕ_discrete x n)
    (λ is. let rest = sum_below-none x n (omega arith) in let here : times n (x ∷ []) ≡ 1 = ap (λ (b : Bool). cond b 1 0 + 0) (eq-eqb x n is) in omega arith)
    (λ not. let rest = sum_below-one x n (omega arith) in let here : times n (x ∷ []) ≡ 0 = ap (λ (b : Bool). cond b 1 0 + 0) (ne_eqb x n not) in omega arith)

-- a list of numbers below n is as long as they stand in it
pub sum_below-times : (ps : List ℕ) (n : ℕ) → ((p : ℕ) → n ≤ p → times p ps ≡ 0) → sum_below (λ p. times p ps) n ≡ length ps
sum_below-times [] n none = empty n
  where
    empty : (n : ℕ) → sum_below (λ p. 0) n ≡ 0
    empty zero = refl
    empty (suc n) = let r = empty n in omega arith
sum_below-times (x ∷ ps) n none =
    let is : ℕ → ℕ = λ p. cond (eqb x p) 1 0 in
    let here : is x ≡ 1 = ap (λ (b : Bool). cond b 1 0) (eq-eqb x x refl) in
    let below : x < n = ⊎_elim (λ (h : x < n). h) (λ (h : n ≤ x). let z = none x h in absurd (omega arith)) (cases_lt x n) in
    let one = sum_below-one x n below in
    let rest = sum_below-times ps n (λ p h. let z = none p h in omega arith) in
    let both = sum_below-add (λ p. times p (x ∷ [])) (λ p. times p ps) n in
    ap (λ (f : ℕ → ℕ). sum_below f n) (λ i p. split p i) ∙ both ∙ omega arith
  where
    split : (p : ℕ) → times p (x ∷ ps) ≡ times p (x ∷ []) + times p ps
    split p = omega arith

module _ {S : Type 0} where
  -- a word that is met behind the first n slots leaves how many of these are known
  known_count-more : (v : View S) (i x n : ℕ) → n < i → known_count (record v { seen = (i, x) ∷ v.seen }) n ≡ known_count v n
  known_count-more v i x zero h = refl
  known_count-more v i x (suc n) h = let rest = known_count-more v i x n (omega arith) in
      (λ j. rest j + cond (ne_eqb i (n + 1) (λ e. omega arith) j || was_seen v.seen (n + 1)) 1 0)

  -- one slot more was found filled, or empty
  pub known_count-filled : (place found : ℕ) (v w : View S) → w ≡ looked false place found v → found ≢ 0 → known_count w (place + 1) ≡ known_count v place + 1
  known_count-filled place found v w is ne =
      let e = is ∙ looked_filled false place found v ne in
      let x : View S = record v { seen = (place + 1, found) ∷ v.seen } in
      let rest = known_count-more v (place + 1) found place (omega arith) in
      let here : cond (eqb (place + 1) (place + 1) || was_seen v.seen (place + 1)) 1 0 ≡ 1 = ap (λ (b : Bool). cond (b || was_seen v.seen (place + 1)) 1 0) (eq-eqb (place + 1) (place + 1) refl) in
      let next : place + 1 ≡ suc place = omega arith in
      ap (λ (z : View S). known_count z (place + 1)) e ∙ ap (known_count x) next ∙ (λ j. rest j + here j)
