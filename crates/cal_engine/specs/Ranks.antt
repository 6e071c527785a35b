-- Rows beside the values by which they are ordered.
use Rattle.std.specs.Prelude.{ℕ, List, [], ◌∷◌, Option, map, drop, filter, slice_get}
use Rattle.std.specs.Prelude.{option_and_then}
use Rattle.std.specs.Option.{option_cmp}
use Rattle.std.specs.Ordering.{ordering_then}
use Rattle.std.specs.declared.cmp.Ordering.{Ordering}
use Rattle.std.specs.declared.cmp.Ordering.TheVariants.{Equal}
use Rattle.cal_filter.specs.Named.{is_named}
use Rattle.cal_ql.specs.declared.query.OrderKey.{OrderKey}
use Rattle.cal_value.specs.Order.{value_cmp}
use Rattle.cal_value.specs.declared.attribute.Entry.{Entry}
use Rattle.cal_value.specs.declared.record.Rec.{Rec}
use Rattle.cal_value.specs.declared.variant.Variant.{Variant}
use Rattle.cal_engine.specs.declared.sorting.Ranked.{Ranked}
use Rattle.cal_engine.specs.Sorting.{directed, value_named}

-- a row with its value for each key
abbrev pub rank : List OrderKey → Rec → Ranked
rank keys row = record { values = map (λ key. value_named key.name row) keys; row = row }

-- the value at a place; nothing past the end
abbrev pub value_in : List (Option Variant) → ℕ → Option Variant
value_in values place = option_and_then (λ v. v) (slice_get values place)

-- the values of entries of a name
abbrev pub values_of : List ℕ → List Entry → List Variant
values_of name entries = map (λ e. e.value) (filter (is_named name) entries)

abbrev pub values_cmp : List OrderKey → List (Option Variant) → List (Option Variant) → Ordering
values_cmp [] vs ws = Equal
values_cmp (key ∷ keys) vs ws = ordering_then
    (directed key.down (option_cmp value_cmp (value_in vs 0) (value_in ws 0)))
    (values_cmp keys (drop 1 vs) (drop 1 ws))

abbrev pub ranked_cmp : List OrderKey → Ranked → Ranked → Ordering
ranked_cmp keys one other = values_cmp keys one.values other.values
