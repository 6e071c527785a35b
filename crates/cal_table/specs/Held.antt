-- What a table keeps of its rows: each within the bound of as many snapshots as it counts.
use Rattle.std.specs.Prelude.{◌≡◌, ℕ, ◌+◌, ◌≤◌, ◌^◌, Bool, List, length, sum_by, unsigned_abs}
use Rattle.std.specs.List.{All}
use Rattle.cal_agg.specs.RowLimits.{RowIsWithin}
use Rattle.cal_agg.specs.declared.row.AggRow.{AggRow}
use Rattle.cal_table.specs.declared.key.TableKey.{TableKey}
use Rattle.cal_table.specs.Rows.{both_held, held_at, rows_of, tally}

-- how many snapshots a row counts
abbrev pub size : AggRow → ℕ
size row = unsigned_abs row.count

-- a row of so many cells, whose numbers are those of the snapshots that it counts
pub record IsHeld (cells : ℕ) (row : AggRow) : Type 0 where
  pub within : RowIsWithin (size row) row
  pub long : length row.cells ≡ cells

-- the rows of a table that stands for so many snapshots
pub record AreHeld (cells snapshots : ℕ) (keys : List TableKey) (rows : List AggRow) : Type 0 where
  pub long : length keys ≡ length rows
  pub each : All (IsHeld cells) rows
  pub total : sum_by size rows ≡ snapshots

-- a row may be put to others
pub record MayPut (keys : List TableKey) (rows : List AggRow) (row : AggRow) : Type 0 where
  pub cells : ℕ
  pub long : length keys ≡ length rows
  pub each : All (IsHeld cells) rows
  pub held : IsHeld cells row
  pub few : sum_by size rows + size row ≤ 2 ^ 26

-- a row was put to others, under its key
pub record Puts (keys : List TableKey) (rows : List AggRow) (key : TableKey) (row : AggRow)
    (new_keys : List TableKey) (new_rows : List AggRow) : Type 0 where
  pub long : length new_keys ≡ length new_rows
  pub each : (cells : ℕ) → All (IsHeld cells) rows → IsHeld cells row → All (IsHeld cells) new_rows
  pub total : sum_by size new_rows ≡ sum_by size rows + size row
  pub tally : (asked : TableKey → Bool) → tally asked (rows_of new_keys new_rows)
      ≡ both_held (tally asked (rows_of keys rows))
      (held_at asked (record { key = key; held = row }))

-- rows may be put to others
pub record MayPour (keys : List TableKey) (rows : List AggRow) (more_keys : List TableKey)
    (more_rows : List AggRow) : Type 0 where
  pub cells : ℕ
  pub long : length keys ≡ length rows
  pub more_long : length more_keys ≡ length more_rows
  pub each : All (IsHeld cells) rows
  pub more_each : All (IsHeld cells) more_rows
  pub few : sum_by size rows + sum_by size more_rows ≤ 2 ^ 26

-- rows were put to others, each under its key
pub record Pours (keys : List TableKey) (rows : List AggRow) (more_keys : List TableKey)
    (more_rows : List AggRow) (new_keys : List TableKey) (new_rows : List AggRow) : Type 0 where
  pub long : length new_keys ≡ length new_rows
  pub each : (cells : ℕ) → All (IsHeld cells) rows → All (IsHeld cells) more_rows
      → All (IsHeld cells) new_rows
  pub total : sum_by size new_rows ≡ sum_by size rows + sum_by size more_rows
  pub tally : (asked : TableKey → Bool) → tally asked (rows_of new_keys new_rows)
      ≡ both_held (tally asked (rows_of keys rows)) (tally asked (rows_of more_keys more_rows))
