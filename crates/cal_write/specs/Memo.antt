use Rattle.std.specs.Prelude.{ℕ, zero, suc, List, Option, Some, None, slice_index_or}

-- what is noted at a number, which is nothing past the end
abbrev pub memo_at : List (Option ℕ) → ℕ → Option ℕ
memo_at m n = slice_index_or m n None

-- the number before, and nothing before 0
abbrev pub before : ℕ → Option ℕ
before zero = None
before (suc n) = Some n
