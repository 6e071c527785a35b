-- What is read within a list doesn't hang on what stands for an item that is missing.
use Rattle.std.proofs.Common.{◌≡◌, ℕ, zero, suc, ◌<◌, List, [], ◌∷◌, length, get_or, refl, arith}

pub read_same : {A : Type 0} (xs : List A) (n : ℕ) (d e : A) → n < length xs → get_or xs n d ≡ get_or xs n e
read_same [] n d e l = absurd (omega arith)
read_same (x ∷ xs) zero d e l = refl
read_same (x ∷ xs) (suc n) d e l = read_same xs n d e (omega arith)
