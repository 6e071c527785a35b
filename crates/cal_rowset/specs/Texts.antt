use Rattle.std.specs.Prelude.{ℕ, Bool, List, [], ◌∷◌, filter, nat_eq, not}
use Rattle.std.specs.Cmp.Lexicographic.{pointwise}

-- whether two texts are the same, byte by byte
abbrev pub is_same : List ℕ → List ℕ → Bool
is_same = pointwise nat_eq

-- each text once, where it is first seen
abbrev pub first_seen : List (List ℕ) → List (List ℕ)
first_seen [] = []
first_seen (text ∷ texts) = text ∷ filter (λ other. not (is_same other text)) (first_seen texts)
