-- The rows of a channel's table, and the records that stand in their place.
use Rattle.std.specs.Prelude.{◌≡◌, ℕ, ◌<◌, ℤ, pos, ◌-ℤ◌, ◌*ℤ◌, Bool, true, List, [], ◌∷◌, ◌++◌}
use Rattle.std.specs.Prelude.{Option, None, Some, codes, filter, length, map, option_map, zip}
use Rattle.std.specs.Int.{int_max, int_min}
use Rattle.std.specs.List.{AllByRecursion, IsDistinct, filter_map, flat_map, last_or, list_any}
use Rattle.cal_agg.specs.Rows.{cell_over}
use Rattle.cal_agg.specs.Shown.{sum_held, value_by}
use Rattle.cal_agg.specs.declared.cell.Cell.{Cell}
use Rattle.cal_agg.specs.declared.num.Num.{Num}
use Rattle.cal_agg.specs.declared.num.Num.TheVariants.{Whole, Fixed}
use Rattle.cal_agg.specs.declared.row.AggRow.{AggRow}
use Rattle.cal_keys.specs.Groups.{is_group}
use Rattle.cal_filter.specs.Kept.{result_entry}
use Rattle.cal_filter.specs.Named.{is_named, last_number}
use Rattle.cal_filter.specs.Numbers.{number_in, value_of_number}
use Rattle.cal_profile.specs.Groups.{agg_of, value_aggs}
use Rattle.cal_ql.specs.declared.names.KernelName as kernels
use Rattle.cal_ql.specs.declared.names.KernelName.TheVariants as kernel
use Rattle.cal_ql.specs.declared.query.Agg.{Agg}
use Rattle.cal_rowset.specs.Texts.{is_same}
use Rattle.cal_script.specs.declared.script.ChannelQuery.{ChannelQuery}
use Rattle.cal_value.specs.declared.attribute.Entry.{Entry}
use Rattle.cal_value.specs.declared.record.Rec.{Rec}
use Rattle.cal_value.specs.declared.variant.Variant.{Variant}

-- ---- what a table holds

-- The key of a snapshot in a channel's table: its paths, and its immediates whose names are keys.
abbrev pub table_key : ChannelQuery → Rec → Rec
table_key channel r = record {
  paths = r.paths;
  imms = filter (λ e. list_any (is_same e.attr.name) channel.keys) r.imms;
}

-- the snapshots with a key
abbrev pub with_key : ChannelQuery → Rec → List Rec → List Rec
with_key channel key trace = filter (λ m. is_group (table_key channel m) key) trace

-- the last number of a name among entries
abbrev pub last_among : List ℕ → List Entry → Option Num
last_among name entries =
    last_or None (filter_map (λ e. number_in e.value) (filter (is_named name) entries))

-- the numbers of an attribute: of each snapshot the last one among its immediates, if it has one
abbrev pub numbers_of : List ℕ → List Rec → List Num
numbers_of attr members = filter_map (λ m. last_among attr m.imms) members

-- how many snapshots there are, and of each value attribute the sum and the ends of its numbers
abbrev pub row_over : ChannelQuery → List Rec → AggRow
row_over channel members = record {
  count = pos (length members);
  cells = map (λ attr. cell_over (numbers_of attr members)) channel.values;
}

-- a row of a table
pub record KeyedRow : Type 0 where
  pub key : Rec
  pub held : AggRow

-- a row holds what the snapshots with its key come to, of which there are some
pub record IsRowOf (channel : ChannelQuery) (trace : List Rec) (row : KeyedRow) : Type 0 where
  pub some : 0 < length (with_key channel row.key trace)
  pub held : row.held ≡ row_over channel (with_key channel row.key trace)

-- The rows of a table that stands for snapshots: each key once, and each snapshot's.
pub record AreRowsOf (channel : ChannelQuery) (trace : List Rec) (rows : List KeyedRow)
    : Type 0 where
  pub once : IsDistinct is_group (map (λ row. row.key) rows)
  pub all : AllByRecursion
      (λ m. list_any (is_group (table_key channel m)) (map (λ row. row.key) rows) ≡ true) trace
  pub each : AllByRecursion (IsRowOf channel trace) rows

-- ---- records in place of rows

-- what is left of a sum of so many equal numbers, of which one contributes by itself
abbrev pub others_of : ℤ → Num → Num
others_of count (Whole n) = Whole ((count -ℤ pos 1) *ℤ n)
others_of count (Fixed n) = Fixed ((count -ℤ pos 1) *ℤ n)

-- The results of a value attribute. Where the key has a number of it, in a path or as a key, each
-- of the snapshots has that number, and it contributes once by itself.
abbrev pub row_result : ℤ → Option Num → Cell → kernels.KernelName → Option Num
row_result count (Some n) cell kernel.Sum = Some (others_of count n)
row_result count (Some n) cell _ = None
row_result count None cell kernel.Sum = sum_held cell.sum
row_result count None cell kernel.Min = value_by int_min cell.least
row_result count None cell kernel.Max = value_by int_max cell.greatest
row_result count None cell _ = None

-- the entry of a result, if it is there
abbrev pub entry_for : Agg → Option Num → Option Entry
entry_for agg n = option_map (λ n. result_entry agg.name (value_of_number n)) n

abbrev pub cell_entries : ℤ → Rec → List ℕ → Cell → List Entry
cell_entries count key attr cell = filter_map
    (λ agg. entry_for agg (row_result count (last_number attr key) cell agg.kernel))
    (value_aggs attr)

-- the entries of a row's results: `count`, and those of each value attribute
abbrev pub row_entries : ChannelQuery → KeyedRow → List Entry
row_entries channel row =
    result_entry (codes "count") (value_of_number (Whole row.held.count))
    ∷ flat_map (λ (c : List ℕ × Cell). cell_entries row.held.count row.key c.0 c.1)
    (zip channel.values row.held.cells)

-- The record in place of a row: its key, and the results.
abbrev pub row_record : ChannelQuery → KeyedRow → Rec
row_record channel row =
    record { paths = row.key.paths; imms = row.key.imms ++ row_entries channel row }
