-- Workers with seats that were split off, one more at a time.
use Rattle.std.proofs.Common.{◌≡◌, ℕ, zero, suc, ◌+◌, ◌<◌, ◌≤◌, List, [], ◌∷◌, ◌++◌}
use Rattle.std.proofs.Common.{length}
use Rattle.std.proofs.Common.{refl, sym, ap, ◌∙◌, subst, ⊎_elim, arith}
use Rattle.std.specs.Prelude.{fold, map, max, slice_index_or}
use Rattle.std.proofs.lemmas.Bool.{cases_lt}
use Rattle.std.proofs.lemmas.List.{get_or_append_left, get_or_push, length_push}
use Rattle.cal_naming.specs.Workers.{AreNumbered}
use Rattle.cal_naming.specs.declared.worker.Worker.{Worker}
use Rattle.cal_once.specs.Seats.{view}
use Rattle.cal_script.specs.Shapes.{greatest}

fold-max : {X : Type 0} (f : X → ℕ) (most : ℕ) (xs : List X)
    → most ≤ fold (λ most x. max most (f x)) most xs
fold-max f most [] = omega arith
fold-max f most (x ∷ xs) = omega (arith, fold-max f (max most (f x)) xs)

fold-at : {X : Type 0} (f : X → ℕ) (d : X) (most : ℕ) (xs : List X) (i : ℕ) → i < length xs
    → f (slice_index_or xs i d) ≤ fold (λ most x. max most (f x)) most xs
fold-at f d most [] i less = absurd (omega (arith, less))
fold-at f d most (x ∷ xs) zero less = omega (arith, fold-max f (max most (f x)) xs)
fold-at f d most (x ∷ xs) (suc i) less = fold-at f d (max most (f x)) xs i (omega (arith, less))

-- no item has more than the greatest number
pub le-greatest : {X : Type 0} (f : X → ℕ) (d : X) (xs : List X) (i : ℕ) → i < length xs
    → f (slice_index_or xs i d) ≤ greatest f xs
le-greatest f d xs i less = fold-at f d 0 xs i less

-- the greatest number of a list's images
pub greatest-map : {W X : Type 0} (f : X → ℕ) (g : W → X) (ws : List W)
    → greatest f (map g ws) ≡ greatest (λ w. f (g w)) ws
greatest-map {W = W} f g ws = by 0 ws
  where
    by : (most : ℕ) (vs : List W) → fold (λ most x. max most (f x)) most (map g vs)
        ≡ fold (λ most v. max most (f (g v))) most vs
    by most [] = refl
    by most (v ∷ vs) = by (max most (f (g v))) vs

-- one worker more, with the next number
pub numbers-push : (ws : List Worker) (w : Worker) → AreNumbered ws
    → (view w.seat).number ≡ length ws + 1 → AreNumbered (ws ++ w ∷ [])
numbers-push ws w all number k d less = ⊎_elim
    (λ (l : k < length ws).
    subst (λ (x : Worker). (view x.seat).number ≡ k + 1)
    (sym (get_or_append_left ws (w ∷ []) d k l)) (all k d l))
    (λ (m : length ws ≤ k).
    let at : length ws ≡ k = omega (arith, m, less, length_push ws w) in
    subst (λ (x : Worker). (view x.seat).number ≡ k + 1) (sym (get_or_push ws w d k at))
    (number ∙ ap (λ n. n + 1) at))
    (cases_lt k (length ws))
