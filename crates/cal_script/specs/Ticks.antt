-- The number of a `tick`, which a line keeps in two halves.
use Rattle.std.specs.Prelude.{ℕ, ◌+◌, ◌*◌, ◌/◌, ◌%◌, ◌^◌, ◌<◌}
use Rattle.cal_script.specs.declared.ticks.Ticks.{Ticks}

-- a number in two halves
abbrev pub ticks_of : ℕ → Ticks
ticks_of number = record { upper = number / 4294967296; lower = number % 4294967296 }

-- the number that two halves make
abbrev pub number_of_ticks : Ticks → ℕ
number_of_ticks ticks = ticks.upper * 4294967296 + ticks.lower

-- each half has 32 bits
pub record AreHalves (ticks : Ticks) : Type 0 where
  pub upper : ticks.upper < 2 ^ 32
  pub lower : ticks.lower < 2 ^ 32
