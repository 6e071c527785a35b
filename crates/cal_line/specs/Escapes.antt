use Rattle.std.specs.Prelude.{ℕ, ◌==◌, ◌||◌, List, [], ◌∷◌, ◌++◌, if◌then◌else◌}

-- A byte as it is written: a backslash before backslash, comma and equals sign, a newline as
-- backslash and `n` (the `.cali` format).
abbrev pub escaped_byte : ℕ → List ℕ
escaped_byte b =
    if b == 10 then 92 ∷ 110 ∷ []
    else (if (b == 92) || (b == 44) || (b == 61) then 92 ∷ b ∷ [] else b ∷ [])

-- a text as it is written, byte by byte
abbrev pub escaped : List ℕ → List ℕ
escaped [] = []
escaped (b ∷ bs) = escaped_byte b ++ escaped bs
