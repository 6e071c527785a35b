-- Things that have numbers of their own below m are at most m.
use Rattle.std.proofs.Common.{◌≡◌, ◌⊎◌, ℕ, zero, suc, ◌+◌, ◌-◌, ◌<◌, ◌≤◌, subst, inl, inr}
use Rattle.std.proofs.Common.{⊎_elim, arith}
use Rattle.std.proofs.lemmas.Bool.{cases_lt}

-- a thing i has a number j, where the number `taken` is left out and those above it count down
abbrev Past : (ℕ → ℕ → Type 0) → (taken : ℕ) → ℕ → ℕ → Type 0
Past R taken i j = ((j < taken) × R i j) ⊎ ((taken ≤ j) × R i (j + 1))

past-one : (R : ℕ → ℕ → Type 0) (n taken i k j : ℕ)
    → ((i k j : ℕ) → i < suc n → k < suc n → R i j → R k j → i ≡ k) → i < n → k < n
    → Past R taken i j → Past R taken k j → i ≡ k
past-one R n taken i k j one a b (inl x) (inl y) =
    one i k j (omega (arith, a)) (omega (arith, b)) x.1 y.1
past-one R n taken i k j one a b (inl x) (inr y) = absurd (omega (arith, x.0, y.0))
past-one R n taken i k j one a b (inr x) (inl y) = absurd (omega (arith, x.0, y.0))
past-one R n taken i k j one a b (inr x) (inr y) =
    one i k (j + 1) (omega (arith, a)) (omega (arith, b)) x.1 y.1

past-each : (R : ℕ → ℕ → Type 0) (m taken i j : ℕ) → taken < m → j < m → R i j → ¬ (j ≡ taken)
    → (k : ℕ) × (k < m - 1) × Past R taken i k
past-each R m taken i j below less has other = ⊎_elim
    (λ (l : j < taken). (j, omega (arith, l, below), inl (l, has)))
    (λ (l : taken ≤ j).
    let more : taken < j = omega (arith, l, other) in
    let back : j ≡ j - 1 + 1 = omega (arith, more) in
    (j - 1, omega (arith, less, more), inr (omega (arith, more), subst (λ k. R i k) back has)))
    (cases_lt j taken)

-- Things below n have numbers below m, and those with one number are one: so n is at most m.
pub few-apart : (R : ℕ → ℕ → Type 0) (n m : ℕ)
    → ((i : ℕ) → i < n → (j : ℕ) × (j < m) × R i j)
    → ((i k j : ℕ) → i < n → k < n → R i j → R k j → i ≡ k) → n ≤ m
few-apart R zero m each one = omega arith
few-apart R (suc n) m each one =
    let last = each n (omega arith) in
    let rest = few-apart (Past R last.0) n (m - 1)
    (λ i less.
    let has = each i (omega (arith, less)) in
    past-each R m last.0 i has.0 last.1 has.1 has.2 (λ same.
    let is = one i n last.0 (omega (arith, less)) (omega arith)
    (subst (λ k. R i k) same has.2) last.2 in
    omega (arith, is, less)))
    (λ i k j a b x y. past-one R n last.0 i k j one a b x y) in
    omega (arith, rest, last.1)
