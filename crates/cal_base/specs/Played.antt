-- Readings from a list (ours).
use Rattle.std.specs.Prelude.{ℕ, Bool, true, ◌+◌, ◌-◌, List, length, take, min, slice_index, Option, Some, None, nat_lt, if◌then◌else◌}

-- A clock in memory: the readings of its list, how many of them were given, and whether it was
-- asked behind their end.
pub record Played : Type 0 where
  pub readings : List ℕ
  pub place : ℕ
  pub is_past : Bool

-- the readings that it gave, which it tells as long as it wasn't asked behind their end
abbrev pub readings_given : Played → Option (List ℕ)
readings_given clock = if clock.is_past then None else Some (take clock.place clock.readings)

-- the reading at a place; behind the end the last one, and 0 where there is none
abbrev pub reading_at : List ℕ → ℕ → ℕ
reading_at readings place = slice_index readings (min place (length readings - 1))

-- the clock after one reading more
abbrev pub played_on : Played → Played
played_on clock =
    if nat_lt clock.place (length clock.readings)
    then record clock { place = clock.place + 1 }
    else record clock { is_past = true }
