use Rattle.std.specs.Prelude.{◌≢◌, ℕ, List, [], ◌∷◌, ◌==◌, if◌then◌else◌}
use Rattle.std.specs.List.{onto_first, All}

-- The lines of an input: each newline ends one, and the last may lack it, so no line begins behind
-- the last newline, and an input without bytes has no line. `\r` is a byte like any other.
-- (Giltmoth's rule, for every input.)
abbrev pub lines_of : List ℕ → List (List ℕ)
lines_of [] = []
lines_of (byte ∷ bytes) =
    if byte == 10 then [] ∷ lines_of bytes else onto_first byte (lines_of bytes)

-- no newline stands in these bytes
abbrev pub HasNoNewline : List ℕ → Type 0
HasNoNewline line = All (λ byte. byte ≢ 10) line
