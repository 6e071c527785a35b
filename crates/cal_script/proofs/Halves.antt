-- Numbers in two halves.
use Rattle.std.proofs.Common.{◌≡◌, ℕ, ◌^◌, ◌<◌, arith}
use Rattle.std.proofs.Math.Pow.{high, low}
use Rattle.cal_script.specs.declared.ticks.Ticks.{Ticks}
use Rattle.cal_script.specs.Ticks.{AreHalves, number_of_ticks, ticks_of}

-- a number of 64 bits has two halves, and is what they make
pub halves_of : (number : ℕ) → number < 2 ^ 64 → AreHalves (ticks_of number)
halves_of number small = record { upper = omega (arith, small); lower = omega (arith, small) }

pub number_back : (number : ℕ) → number_of_ticks (ticks_of number) ≡ number
number_back number = omega arith

-- two halves are those of the number that they make
pub halves_back : (ticks : Ticks) → AreHalves ticks → ticks_of (number_of_ticks ticks) ≡ ticks
halves_back ticks are j = record { upper = high ticks.upper 32 are.lower j; lower = low ticks.upper 32 are.lower j }

pub halves_small : (ticks : Ticks) → AreHalves ticks → number_of_ticks ticks < 2 ^ 64
halves_small ticks are = omega (arith, are.upper, are.lower)
