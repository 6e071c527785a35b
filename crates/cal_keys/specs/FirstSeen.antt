use Rattle.std.specs.Prelude.{Bool, List, [], ◌∷◌, filter, not}

-- each item once, where it is first seen
abbrev pub firsts : {A : Type 0} → (A → A → Bool) → List A → List A
firsts same [] = []
firsts same (x ∷ xs) = x ∷ filter (λ other. not (same other x)) (firsts same xs)
