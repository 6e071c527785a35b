-- Where the values stand that generated lines open (private).
use Rattle.std.specs.Prelude.{◌≡◌, ℕ, ◌-◌, ◌<◌, List, length, nat_lt, if◌then◌else◌}
use Rattle.cal_value.specs.declared.variant.Variant.{Variant}
use Rattle.cal_script.specs.Values.{value_in}
use Rattle.cal_gen.specs.GeneratedScript.{name_value, number_value}

-- the value at a place of all of them: sixteen names, and the numbers behind them
abbrev pub value_at : ℕ → Variant
value_at place = if nat_lt place 16 then name_value place else number_value (place - 16)

-- the first of them, so many
pub record AreFirst (count : ℕ) (kept : List Variant) : Type 0 where
  pub number : length kept ≡ count
  pub values : (place : ℕ) → place < count → value_in kept place ≡ value_at place
