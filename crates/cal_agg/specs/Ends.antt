-- What the results of a list of numbers are, in other words than those that define them.
use Rattle.std.specs.Prelude.{◌≡◌, ◌⊎◌, ◌<◌, ◌^◌, ℤ, ◌+ℤ◌, ◌≤ℤ◌, unsigned_abs, true}
use Rattle.std.specs.Prelude.{List, [], map, All, Contains, Some}
use Rattle.cal_agg.specs.declared.num.Num.{Num}
use Rattle.cal_agg.specs.Numbers.{measure, is_fixed, some_fixed}
use Rattle.cal_agg.specs.Results.{together}

-- the least measure of a list of contributions, fixed where some contribution is
pub record IsLeast (ns : List Num) (end : Num) : Type 0 where
  pub reached : Contains (map measure ns) (measure end)
  pub bound : All (λ z. measure end ≤ℤ z) (map measure ns)
  pub kind : is_fixed end ≡ some_fixed ns

-- the greatest one
pub record IsGreatest (ns : List Num) (end : Num) : Type 0 where
  pub reached : Contains (map measure ns) (measure end)
  pub bound : All (λ z. z ≤ℤ measure end) (map measure ns)
  pub kind : is_fixed end ≡ some_fixed ns

-- a fixed sum above the limit
pub record IsTooLarge (ns : List Num) : Type 0 where
  pub fixed : some_fixed ns ≡ true
  pub total : ℤ
  pub sum : together ◌+ℤ◌ (map measure ns) ≡ Some total
  pub above : 2 ^ 118 < unsigned_abs total

-- where it is absent: nothing contributes, or it is too large
abbrev pub IsAbsentSum : List Num → Type 0
IsAbsentSum ns = (ns ≡ []) ⊎ IsTooLarge ns
