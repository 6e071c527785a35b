-- The rows of a table, and what the rows of some keys come to.
use Rattle.std.specs.Prelude.{Bool, Option, None, Some, List, [], ◌∷◌, if◌then◌else◌}
use Rattle.cal_agg.specs.Rows.{merged_row}
use Rattle.cal_agg.specs.declared.row.AggRow.{AggRow}
use Rattle.cal_table.specs.declared.key.TableKey.{TableKey}

-- a key, and what is held of the snapshots that have it
pub record Row : Type 0 where
  pub key : TableKey
  pub held : AggRow

-- keys, and what is held under each, as rows
abbrev pub rows_of : List TableKey → List AggRow → List Row
rows_of [] helds = []
rows_of (key ∷ keys) [] = []
rows_of (key ∷ keys) (held ∷ helds) = record { key = key; held = held } ∷ rows_of keys helds

-- what is held of two groups, of which each may be missing
abbrev pub both_held : Option AggRow → Option AggRow → Option AggRow
both_held None other = other
both_held (Some one) None = Some one
both_held (Some one) (Some other) = Some (merged_row one other)

-- what a row holds, where its key is asked for
abbrev pub held_at : (TableKey → Bool) → Row → Option AggRow
held_at asked row = if asked row.key then Some row.held else None

-- What the rows hold together whose keys are asked for, if there are some. Asked for one key alone,
-- this is the map from keys to what is held; a key may stand in several rows.
abbrev pub tally : (TableKey → Bool) → List Row → Option AggRow
tally asked [] = None
tally asked (row ∷ rows) = both_held (held_at asked row) (tally asked rows)
