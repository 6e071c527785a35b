-- An answer in JSON: one line, an array with an object for each row (RFC 8259; Giltmoth's layout).
use Rattle.std.specs.Prelude.{ℕ, ℤ, pos, negsuc, ◌^◌, nat_lt, Bool, false, List, [], ◌∷◌, ◌++◌}
use Rattle.std.specs.Prelude.{Option, None, Some, option_map, fold, map, if◌then◌else◌}
use Rattle.std.specs.BTreeMap.{insert_entry}
use Rattle.std.specs.Cmp.Lexicographic.{slice_cmp}
use Rattle.std.specs.List.{join_with_byte}
use Rattle.std.specs.Ordering.{nat_cmp}
use Rattle.cal_value.specs.declared.record.Rec.{Rec}
use Rattle.cal_value.specs.declared.variant.Variant.{Variant}
use Rattle.cal_rowset.specs.Cells.{cell_of, content_of, shown_values}
use Rattle.cal_rowset.specs.declared.cell.Content.{Content}
use Rattle.cal_rowset.specs.declared.cell.Content.TheVariants.{Nothing, Whole, Decimal, Words}
use Rattle.cal_rowset.specs.declared.rowset.Column.{Column}
use Rattle.cal_rowset.specs.declared.rowset.Rowset.{Rowset}
use Rattle.cal_jsonfmt.specs.Strings.{string_json}

-- a whole number that 64 bits hold, with a sign or without
abbrev pub fits_64_bits : ℤ → Bool
fits_64_bits (pos n) = nat_lt n (2 ^ 64)
fits_64_bits (negsuc n) = nat_lt n (2 ^ 63)

-- a cell of one such number is a number, and every other cell a string
abbrev pub is_number : Content → Bool
is_number Nothing = false
is_number (Whole n) = fits_64_bits n
is_number Decimal = false
is_number Words = false

abbrev pub value_json : Content → List ℕ → List ℕ
value_json content text = if is_number content then text else string_json text

-- the cell that values make; absent where there is none
abbrev pub json_of : List Variant → Option (List ℕ)
json_of vs = option_map (value_json (content_of vs)) (cell_of vs)

-- A member is a key with the text of its value.
abbrev pub Member : Type 0
Member = List ℕ × List ℕ

-- the members with one more, unless it is absent: keys come by bytes, of one key the last counts
abbrev pub with_member : List Member → List ℕ → Option (List ℕ) → List Member
with_member members key None = members
with_member members key (Some value) = insert_entry (slice_cmp nat_cmp) members key value

-- the members of a row: the headers of the columns whose cells are there
abbrev pub members : List Column → Rec → List Member
members columns row = fold
    (λ before column. with_member before column.header (json_of (shown_values row column.name)))
    [] columns

-- a member, an object and an array; 58 is `:` and 44 `,`
abbrev pub member_json : Member → List ℕ
member_json m = string_json m.0 ++ 58 ∷ m.1

abbrev pub object_json : List Member → List ℕ
object_json ms = 123 ∷ (join_with_byte 44 (map member_json ms) ++ 125 ∷ [])

abbrev pub array_json : List (List ℕ) → List ℕ
array_json texts = 91 ∷ (join_with_byte 44 texts ++ 93 ∷ [])

-- the object of a row
abbrev pub row_json : List Column → Rec → List ℕ
row_json columns row = object_json (members columns row)

-- the line of an answer
abbrev pub json : Rowset → List ℕ
json answer = array_json (map (row_json answer.columns) answer.rows.rows) ++ 10 ∷ []
