use Rattle.std.specs.Prelude.{ℕ, ◌==◌, List, [], ◌∷◌, if◌then◌else◌}
use Rattle.std.specs.List.{flat_map}

-- a text with a backslash before each backslash
abbrev pub with_escapes : List ℕ → List ℕ
with_escapes = flat_map (λ b. if b == 92 then 92 ∷ b ∷ [] else b ∷ [])
