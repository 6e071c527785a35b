-- Of each key the column that is shown under it; for private clauses.
use Rattle.std.specs.Prelude.{◌≡◌, ℕ, ℤ, ◌<◌, List, [], ◌∷◌, Option, None, Some}
use Rattle.std.specs.Prelude.{length, slice_get, slice_index_or, slice_set, MatchOption, ⊤}
use Rattle.std.specs.Cmp.Lexicographic.{slice_cmp}
use Rattle.std.specs.Fmt.{signed_decimal}
use Rattle.std.specs.List.Sorted.{IsStrictlySortedBy}
use Rattle.std.specs.Ordering.{nat_cmp}
use Rattle.cal_value.specs.declared.record.Rec.{Rec}
use Rattle.cal_value.specs.declared.variant.Variant.{Variant}
use Rattle.cal_rowset.specs.Cells.{shown_values}
use Rattle.cal_rowset.specs.Filling.{Shows}
use Rattle.cal_rowset.specs.Showing.{nth_column}
use Rattle.cal_rowset.specs.declared.cell.Cell.{Cell}
use Rattle.cal_rowset.specs.declared.cell.Content.TheVariants.{Whole}
use Rattle.cal_rowset.specs.declared.rowset.Column.{Column}
use Rattle.cal_jsonfmt.specs.Json.{Member, json_of, value_json}
use Rattle.cal_jsonfmt.specs.declared.keys.Keys.{Keys}
use Rattle.cal_jsonfmt.specs.declared.objects.Objects.{Objects}

-- texts in the order of their bytes, none of them twice
abbrev pub Ascend : List (List ℕ) → Type 0
Ascend = IsStrictlySortedBy (slice_cmp nat_cmp)

-- of each column the place of its header among keys
pub record ArePlacesOf (keys : List (List ℕ)) (columns : List Column) (places : List ℕ)
    : Type 0 where
  pub counted : length places ≡ length columns
  pub header : (k : ℕ) → k < length columns
      → slice_get keys (slice_index_or places k 0) ≡ Some (nth_column columns k).header

-- the keys of objects in these columns
pub record AreKeysOf (k : Keys) (columns : List Column) : Type 0 where
  pub ascend : Ascend k.names.items
  pub places : ArePlacesOf k.names.items columns k.places.items

-- objects in these columns
pub record AreFor (o : Objects) (columns : List Column) : Type 0 where
  pub keys : AreKeysOf o.keys columns

-- the members of keys, of which some have a value
abbrev pub members_of : List (List ℕ) → List (Option (List ℕ)) → List Member
members_of [] values = []
members_of (key ∷ keys) [] = []
members_of (key ∷ keys) (None ∷ values) = members_of keys values
members_of (key ∷ keys) (Some value ∷ values) = (key, value) ∷ members_of keys values

-- what the cell of a column is in JSON, where a column is chosen
abbrev pub value_at : List Column → Rec → Option ℕ → Option (List ℕ)
value_at columns row None = None
value_at columns row (Some place) = json_of (shown_values row (nth_column columns place).name)

-- each is one of the columns, if it is one
abbrev pub IsWithin : List Column → Option ℕ → Type 0
IsWithin columns column = MatchOption column ⊤ (λ place. place < length columns)

abbrev pub AreWithin : List Column → List (Option ℕ) → Type 0
AreWithin columns chosen = (k : ℕ) → k < length chosen
    → IsWithin columns (slice_index_or chosen k None)

-- of a key one column more is chosen, if its cell is there
abbrev pub with_choice : List (Option ℕ) → ℕ → ℕ → Option (List ℕ) → List (Option ℕ)
with_choice chosen place column None = chosen
with_choice chosen place column (Some value) = slice_set chosen place (Some column)

-- the text of a cell of one number is that number's
abbrev pub IsSpelled : Cell → Type 0
IsSpelled c = (n : ℤ) → c.content ≡ Whole n → c.text ≡ signed_decimal n

-- a cell shows these values, and is there
pub record ShowsCell (c : Cell) (vs : List Variant) : Type 0 where
  pub shows : Shows c vs
  pub spelled : IsSpelled c
  pub there : json_of vs ≡ Some (value_json c.content c.text)
