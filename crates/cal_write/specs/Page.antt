use Rattle.std.specs.Prelude.{ℕ, ◌≤◌, List, IsUtf8, length, take}

-- the first bytes of a block are a text
pub record IsPage (used : ℕ) (bytes : List ℕ) : Type 0 where
  pub within : used ≤ length bytes
  pub utf8 : IsUtf8 (take used bytes)
