use Rattle.std.specs.Prelude.{ℕ, ◌+◌, ◌-◌, ◌<◌, List, length, take, Contains}
use Rattle.cal_base.specs.Faults.{counted_on}

-- A source in memory: the bytes left, the numbers of the calls that are to fail, counted from 1,
-- the number of calls so far, and the count of faults.
pub record Stored : Type 0 where
  pub left : List ℕ
  pub failing : List ℕ
  pub calls : ℕ
  pub faults : ℕ

-- A sink in memory: the bytes written, the room for bytes in all, the numbers of the calls that are
-- to fail, counted from 1, the number of calls so far, and the count of faults.
pub record Storing : Type 0 where
  pub written : List ℕ
  pub room : ℕ
  pub failing : List ℕ
  pub calls : ℕ
  pub faults : ℕ

-- the call after this many is one that is to fail
abbrev pub NextFails : List ℕ → ℕ → Type 0
NextFails failing calls = Contains failing (counted_on calls)

-- what fits of a piece
abbrev pub fitting : Storing → List ℕ → List ℕ
fitting sink bytes = take (sink.room - length sink.written) bytes

-- A piece is larger than what is left of the room.
abbrev pub Overflows : Storing → List ℕ → Type 0
Overflows sink bytes = sink.room < length sink.written + length bytes
