-- The numbers that kernels take: whole ones, and fixed ones in nano-units.
use Rattle.std.specs.Prelude.{ℕ, ◌≤◌, ◌^◌, ℤ, pos, ◌*ℤ◌, unsigned_abs}
use Rattle.std.specs.Prelude.{Bool, true, false, ◌||◌, List, [], ◌∷◌}
use Rattle.cal_agg.specs.declared.num.Num.{Num}
use Rattle.cal_agg.specs.declared.num.Num.TheVariants.{Whole, Fixed}

-- what a number counts: wholes of a whole one, nano-units of a fixed one
abbrev pub number : Num → ℤ
number (Whole n) = n
number (Fixed n) = n

-- so many wholes in nano-units
abbrev pub nano_units : ℤ → ℤ
nano_units n = pos 1000000000 *ℤ n

-- a number in nano-units
abbrev pub measure : Num → ℤ
measure (Whole n) = nano_units n
measure (Fixed n) = n

abbrev pub is_fixed : Num → Bool
is_fixed (Whole n) = false
is_fixed (Fixed n) = true

-- whether some number is fixed
abbrev pub some_fixed : List Num → Bool
some_fixed [] = false
some_fixed (n ∷ ns) = is_fixed n || some_fixed ns

-- a magnitude of at most a power of two
abbrev pub IsWithin : ℕ → ℤ → Type 0
IsWithin bits z = unsigned_abs z ≤ 2 ^ bits

-- what may be added to a kernel (ours)
abbrev pub IsSmall : Num → Type 0
IsSmall n = IsWithin 86 (number n)

-- what may be added to a count
abbrev pub IsSmallWhole : Num → Type 0
IsSmallWhole (Whole n) = IsWithin 86 n
IsSmallWhole (Fixed n) = ⊥
