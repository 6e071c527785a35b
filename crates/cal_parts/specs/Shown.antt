-- What the parts of a kernel are over, and whole results as they are held.
use Rattle.std.specs.Prelude.{◌≡◌, false, List, [], ⊤, ℤ, Bool, true, Option, Some}
use Rattle.cal_agg.specs.Numbers.{some_fixed}
use Rattle.cal_agg.specs.declared.num.Num.{Num}
use Rattle.cal_ql.specs.declared.names.KernelName as kernels
use Rattle.cal_ql.specs.declared.names.KernelName.TheVariants as kernel
use Rattle.cal_parts.specs.Parts.{Gathered, part_over}
use Rattle.cal_agg.specs.declared.num.Num.TheVariants.{Whole}
use Rattle.cal_parts.specs.Kernels.{result_of}

-- only whole numbers contribute to `count`
abbrev pub TakesWhole : kernels.KernelName → List Num → Type 0
TakesWhole kernel.Count ns = some_fixed ns ≡ false
TakesWhole _ ns = ⊤

-- the parts of a kernel over a group's numbers, over all numbers, and over those below
pub record ArePartsOf (k : kernels.KernelName) (ns ms bs : List Num)
    (one other third : Gathered) : Type 0 where
  pub own : one ≡ part_over k ns
  pub all : other ≡ part_over k ms
  pub below : third ≡ part_over k bs
  pub whole : TakesWhole k ns

-- a kernel's result is what is held of the group's own numbers, where they are whole
abbrev pub shows_held : kernels.KernelName → Bool
shows_held kernel.Count = true
shows_held kernel.Sum = true
shows_held kernel.Min = true
shows_held kernel.Max = true
shows_held _ = false

-- of what is kept of a group a kernel comes to this whole number, whatever other groups there are
abbrev pub ComesTo : kernels.KernelName → Option Gathered → ℤ → Type 0
ComesTo k own n = (ns ms bs : List Num) → own ≡ Some (part_over k ns) → TakesWhole k ns
    → result_of k ns ms bs ≡ Some (Whole n)
