-- What snapshots come to in a table of a shape.
use Rattle.std.specs.Prelude.{Bool, false, Option, None, Some, List, [], ◌∷◌, pos}
use Rattle.std.specs.Prelude.{filter, length, map, slice_index_or}
use Rattle.std.specs.List.{filter_map, last_or}
use Rattle.std.specs.Option.{ForSome}
use Rattle.cal_agg.specs.RowLimits.{IsOf64}
use Rattle.cal_agg.specs.Rows.{cell_over}
use Rattle.cal_agg.specs.declared.num.Num.{Num}
use Rattle.cal_agg.specs.declared.row.AggRow.{AggRow}
use Rattle.cal_filter.specs.Numbers.{number_in}
use Rattle.cal_value.specs.declared.variant.Variant.{Variant}
use Rattle.cal_snap.specs.declared.numbered.NumberedEntry.{NumberedEntry}
use Rattle.cal_snap.specs.declared.numbered.NumberedSnap.{NumberedSnap}
use Rattle.cal_table.specs.Rows.{Row}
use Rattle.cal_table.specs.Tables.{Same, TableValue}
use Rattle.cal_table.specs.declared.key.TableKey.{TableKey}
use Rattle.cal_table.specs.declared.shape.TableShape.{TableShape}

-- whether the attribute of an entry is flagged
abbrev pub is_flagged : List Bool → NumberedEntry → Bool
is_flagged flags entry = slice_index_or flags entry.attribute false

-- a number of 64 bits, if it is a number at all
abbrev pub IsWithin64 : Variant → Type 0
IsWithin64 value = ForSome (number_in value) IsOf64

abbrev pub HasNumberOf64 : NumberedEntry → Type 0
HasNumberOf64 entry = IsWithin64 entry.value

-- the last number among the entries of a value attribute
abbrev pub last_number : List Bool → List NumberedEntry → Option Num
last_number flags entries =
    last_or None (filter_map (λ e. number_in e.value) (filter (is_flagged flags) entries))

-- the key of a snapshot: its nodes, and those of its entries whose attributes are keys
abbrev pub key_of : TableShape → NumberedSnap → TableKey
key_of shape snap = record {
  refs = snap.refs.items;
  imms = filter (is_flagged shape.keys) snap.imms.items;
}

-- the numbers of a value attribute: of each snapshot the last one, if it has one
abbrev pub numbers_of : List Bool → List NumberedSnap → List Num
numbers_of flags snaps = filter_map (λ snap. last_number flags snap.imms.items) snaps

-- how many snapshots there are, and for each value attribute the sum and the ends of its numbers
abbrev pub held_over : TableShape → List NumberedSnap → AggRow
held_over shape snaps = record {
  count = pos (length snaps);
  cells = map (λ flags. cell_over (numbers_of flags snaps)) shape.values;
}

-- the row of one snapshot
abbrev pub row_of : TableShape → NumberedSnap → Row
row_of shape snap = record { key = key_of shape snap; held = held_over shape (snap ∷ []) }

-- the table of these snapshots: a row for each
abbrev pub table_of : TableShape → List NumberedSnap → TableValue
table_of shape snaps = record {
  shape = shape;
  rows = map (row_of shape) snaps;
  snapshots = length snaps;
}

-- a table stands for these snapshots
abbrev pub StandsFor : List NumberedSnap → TableValue → Type 0
StandsFor snaps table = Same table (table_of table.shape snaps)

-- What the snapshots whose keys are asked for come to, if there are some: asked for one key alone,
-- the map from keys to what is held, each over the whole sublist of snapshots with the key.
abbrev pub some_held : TableShape → List NumberedSnap → Option AggRow
some_held shape [] = None
some_held shape (snap ∷ snaps) = Some (held_over shape (snap ∷ snaps))

abbrev pub held_of_keys : TableShape → (TableKey → Bool) → List NumberedSnap → Option AggRow
held_of_keys shape asked snaps =
    some_held shape (filter (λ snap. asked (key_of shape snap)) snaps)
