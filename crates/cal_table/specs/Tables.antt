-- What a table is: its shape, its rows and how many snapshots it stands for.
use Rattle.std.specs.Prelude.{◌≡◌, ℕ, ◌+◌, Bool, List, [], ◌++◌}
use Rattle.cal_table.specs.declared.key.TableKey.{TableKey}
use Rattle.cal_table.specs.declared.shape.TableShape.{TableShape}
use Rattle.cal_table.specs.Rows.{Row, tally}

pub record TableValue : Type 0 where
  pub shape : TableShape
  pub rows : List Row
  pub snapshots : ℕ

-- the table of a shape that stands for no snapshot
abbrev pub empty_table : TableShape → TableValue
empty_table shape = record { shape = shape; rows = []; snapshots = 0 }

-- the rows of both, one list behind the other
abbrev pub merged_tables : TableValue → TableValue → TableValue
merged_tables one other = record {
  shape = one.shape;
  rows = one.rows ++ other.rows;
  snapshots = one.snapshots + other.snapshots;
}

-- Two tables stand for the same: whichever keys are asked for, their rows hold the same together.
pub record Same (one other : TableValue) : Type 0 where
  pub shape : one.shape ≡ other.shape
  pub snapshots : one.snapshots ≡ other.snapshots
  pub tally : (asked : TableKey → Bool) → tally asked one.rows ≡ tally asked other.rows
