-- Lists whose items go together, place by place.
use Rattle.std.proofs.Common.{◌≡◌, ℕ, zero, suc, List, [], ◌∷◌, length, map, refl, ap, subst}
use Rattle.std.proofs.Common.{arith}
use Rattle.std.proofs.lemmas.Option.{same_Some}
use Rattle.std.specs.Prelude.{Some, slice_get}

-- there is a list of items that go with those of another one
pub record Chosen {A B : Type 0} (goes : ℕ → A → B → Type 0) (xs : List A) : Type 0 where
  pub ys : List B
  pub many : length ys ≡ length xs
  pub each : (k : ℕ) (x : A) (y : B) → slice_get xs k ≡ Some x → slice_get ys k ≡ Some y
      → goes k x y

-- where each item has one that goes with it
pub chosen : {A B : Type 0} (goes : ℕ → A → B → Type 0) (xs : List A)
    → ((k : ℕ) (x : A) → slice_get xs k ≡ Some x → (y : B) × goes k x y) → Chosen goes xs
chosen goes [] each = record { ys = []; many = refl; each = λ k x y at_x at_y. absurd cc }
chosen {A} {B} goes (x ∷ xs) each =
    let first = each zero x refl in
    let rest = chosen (λ k. goes (suc k)) xs (λ k y at. each (suc k) y at) in
    record {
      ys = first.0 ∷ rest.ys;
      many = ap suc rest.many;
      each = at first.0 first.1 rest;
    }
  where
    at : (y : B) → goes zero x y → (rest : Chosen (λ k. goes (suc k)) xs) → (k : ℕ) (a : A) (b : B)
        → slice_get (x ∷ xs) k ≡ Some a → slice_get (y ∷ rest.ys) k ≡ Some b → goes k a b
    at y here rest zero a b at_a at_b =
        subst (λ (z : A). goes zero z b) (same_Some x a at_a)
        (subst (λ (z : B). goes zero x z) (same_Some y b at_b) here)
    at y here rest (suc k) a b at_a at_b = rest.each k a b at_a at_b

-- lists that are alike at each place
pub map-alike : {A B C : Type 0} (f : A → C) (g : B → C) (xs : List A) (ys : List B)
    → length ys ≡ length xs
    → ((k : ℕ) (x : A) (y : B) → slice_get xs k ≡ Some x → slice_get ys k ≡ Some y → f x ≡ g y)
    → map f xs ≡ map g ys
map-alike f g [] [] many each = refl
map-alike f g [] (y ∷ ys) many each = absurd (omega (arith, many))
map-alike f g (x ∷ xs) [] many each = absurd (omega (arith, many))
map-alike f g (x ∷ xs) (y ∷ ys) many each =
    (λ i. each zero x y refl refl i
    ∷ map-alike f g xs ys (omega (arith, many)) (λ k a b at_a at_b. each (suc k) a b at_a at_b) i)
