-- The lines of an input of which more may come.
use Rattle.std.specs.Prelude.{◌≡◌, ℕ, ◌==◌, List, [], ◌∷◌, ◌++◌, if◌then◌else◌}
use Rattle.std.specs.List.{All, flat_map}
use Rattle.cal_line.specs.Lines.{HasNoNewline}

-- a byte before the first of these lines, if one has ended
abbrev pub onto_ended : ℕ → List (List ℕ) → List (List ℕ)
onto_ended byte [] = []
onto_ended byte (line ∷ lines) = (byte ∷ line) ∷ lines

-- the lines that a newline has ended
abbrev pub ended_lines : List ℕ → List (List ℕ)
ended_lines [] = []
ended_lines (byte ∷ bytes) =
    if byte == 10 then [] ∷ ended_lines bytes else onto_ended byte (ended_lines bytes)

-- lines as they stand in an input, each with its newline
abbrev pub joined : List (List ℕ) → List ℕ
joined lines = flat_map (λ line. line ++ 10 ∷ []) lines

-- the bytes are these lines that have ended, and then one that has begun
pub record IsCut (bytes : List ℕ) (lines : List (List ℕ)) (begun : List ℕ) : Type 0 where
  pub bytes_are : bytes ≡ joined lines ++ begun
  pub ended : All HasNoNewline lines
  pub begun_line : HasNoNewline begun
