-- ORDER BY: rows sorted stably by its keys.
use Rattle.std.specs.Prelude.{ℕ, Bool, List, [], ◌∷◌, Option, if◌then◌else◌}
use Rattle.std.specs.Prelude.{option_map}
use Rattle.std.specs.declared.cmp.Ordering.{Ordering}
use Rattle.std.specs.declared.cmp.Ordering.TheVariants.{Equal}
use Rattle.std.specs.Option.{option_cmp}
use Rattle.std.specs.Ordering.{is_lt, ordering_reverse, ordering_then}
use Rattle.cal_value.specs.Order.{value_cmp}
use Rattle.cal_value.specs.declared.record.Rec.{Rec}
use Rattle.cal_value.specs.declared.variant.Variant.{Variant}
use Rattle.cal_ql.specs.declared.query.OrderKey.{OrderKey}
use Rattle.cal_filter.specs.Named.{last_entry}

-- an item put before the first one that isn't below it
abbrev pub put_in : {A : Type 0} → (A → A → Ordering) → A → List A → List A
put_in cmp x [] = x ∷ []
put_in cmp x (y ∷ ys) = if is_lt (cmp y x) then y ∷ put_in cmp x ys else x ∷ y ∷ ys

-- a list sorted, where items that tie stay in their order
abbrev pub sorted : {A : Type 0} → (A → A → Ordering) → List A → List A
sorted cmp [] = []
sorted cmp (x ∷ xs) = put_in cmp x (sorted cmp xs)

-- the other way round for DESC, which so puts an absent value last
abbrev pub directed : Bool → Ordering → Ordering
directed down answer = if down then ordering_reverse answer else answer

-- the value by which a row is ordered under a name
abbrev pub value_named : List ℕ → Rec → Option Variant
value_named name row = option_map (λ e. e.value) (last_entry name row)

-- Rows are ordered by the value of the last entry of a key's name, an absent one first, and where
-- these tie by the next key.
abbrev pub row_cmp : List OrderKey → Rec → Rec → Ordering
row_cmp [] row other = Equal
row_cmp (key ∷ keys) row other = ordering_then
    (directed key.down
    (option_cmp value_cmp (value_named key.name row) (value_named key.name other)))
    (row_cmp keys row other)

abbrev pub sorted_rows : List OrderKey → List Rec → List Rec
sorted_rows keys rows = sorted (row_cmp keys) rows
