-- What a source tells of the bytes left, a sink of the bytes written and a clock of the readings
-- given is an `Option`: none where it tells nothing. A source or sink that tells once tells always,
-- and one that doesn't never does. A clock may fall silent, and stays so.
use Rattle.std.specs.Prelude.{◌≡◌, ℕ, ◌+◌, ◌≤◌, List, ◌++◌, length, take, ⊤, None, Some, Option}

-- these bytes were at the front of what was left, and are taken away
abbrev pub Takes : Option (List ℕ) → Option (List ℕ) → List ℕ → Type 0
Takes None None bytes = ⊤
Takes (Some old) (Some new) bytes = old ≡ bytes ++ new
Takes None (Some new) bytes = ⊥
Takes (Some old) None bytes = ⊥

-- at most so many bytes were taken away
abbrev pub TakesUpTo : ℕ → Option (List ℕ) → Option (List ℕ) → Type 0
TakesUpTo limit old new = (bytes : List ℕ) × (length bytes ≤ limit) × Takes old new bytes

-- so many bytes were taken away, and one more
abbrev pub TakesOver : ℕ → Option (List ℕ) → Option (List ℕ) → Type 0
TakesOver limit old new = (bytes : List ℕ) × (length bytes ≡ limit + 1) × Takes old new bytes

-- these bytes were put behind what was written
abbrev pub Appends : Option (List ℕ) → Option (List ℕ) → List ℕ → Type 0
Appends None None bytes = ⊤
Appends (Some old) (Some new) bytes = new ≡ old ++ bytes
Appends None (Some new) bytes = ⊥
Appends (Some old) None bytes = ⊥

-- some front of these bytes was put behind what was written
abbrev pub AppendsFront : Option (List ℕ) → Option (List ℕ) → List ℕ → Type 0
AppendsFront old new bytes = (count : ℕ) × Appends old new (take count bytes)

-- these readings were put behind those that a clock tells, where it still tells
abbrev pub Gives : Option (List ℕ) → Option (List ℕ) → List ℕ → Type 0
Gives None None readings = ⊤
Gives (Some old) None readings = ⊤
Gives (Some old) (Some new) readings = new ≡ old ++ readings
Gives None (Some new) readings = ⊥
