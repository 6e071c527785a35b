-- The entries of a snapshot that a table gets.
use Rattle.std.specs.Prelude.{Bool}
use Rattle.cal_snap.specs.declared.numbered.NumberedEntry.{NumberedEntry}
use Rattle.cal_table.specs.Looks.{looks_at}
use Rattle.cal_table.specs.declared.shape.TableShape.{TableShape}

-- whether tables of a shape look at an entry
abbrev pub is_looked_at : TableShape → NumberedEntry → Bool
is_looked_at shape entry = looks_at shape entry.attribute
