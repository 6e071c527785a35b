-- How reading a source to its end comes out.
use Rattle.std.specs.Prelude.{ℕ, ◌≤◌, List, length}
use Rattle.std.specs.Io.KnownBytes.{IsAtEnd}
use Rattle.cal_base.specs.Change.{Change, HasFailed}
use Rattle.cal_base.specs.Told.{Takes, TakesUpTo, TakesOver}
use Rattle.cal_base.specs.declared.reading.ReadEnd.{ReadEnd}
use Rattle.cal_base.specs.declared.reading.ReadEnd.TheVariants.{ReadFault, TooLong, OutOfMemory}

-- These bytes were all that the source had left, and they are within the limit.
pub record ReadsAll (limit : ℕ) (input : Change) (bytes : List ℕ) : Type 0 where
  pub taken : Takes input.old input.new bytes
  pub ended : IsAtEnd input.new
  pub within : length bytes ≤ limit

-- Why the source wasn't read to its end, and how much was taken then: the limit's bytes and one more
-- where it is too long, and else at most the limit (ours).
abbrev pub StopsAt : ReadEnd → ℕ → Change → Type 0
StopsAt ReadFault limit input = HasFailed input × TakesUpTo limit input.old input.new
StopsAt TooLong limit input = TakesOver limit input.old input.new
StopsAt OutOfMemory limit input = TakesUpTo limit input.old input.new
