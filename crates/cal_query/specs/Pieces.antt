-- Reading an input in pieces.
use Rattle.std.specs.Prelude.{◌≡◌, ℕ, List, ◌++◌, length, Option}
use Rattle.cal_base.specs.Told.{Takes}

-- So many bytes were taken from a source, and whoever had been fed some bytes has been fed these
-- behind them (private).
pub record Feeds (had has : List ℕ → Type 0) (old new : Option (List ℕ)) (count : ℕ) : Type 0 where
  pub bytes : List ℕ
  pub taken : Takes old new bytes
  pub counted : length bytes ≡ count
  pub fed : (front : List ℕ) → had front → has (front ++ bytes)
