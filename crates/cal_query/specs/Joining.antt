-- The rows that a query sees: those of a stream, or each with the globals joined to it (ours).
use Rattle.std.specs.Prelude.{Bool, true, false, List, ◌++◌, map}
use Rattle.cal_value.specs.Flat.{flat}
use Rattle.cal_value.specs.declared.attribute.Entry.{Entry}
use Rattle.cal_value.specs.declared.record.Rec.{Rec}
use Rattle.cal_value.specs.declared.record.Records.{Records}

-- a row with entries at the end of its immediates
abbrev pub with_entries : List Entry → Rec → Rec
with_entries entries row = record { paths = row.paths; imms = row.imms ++ entries }

-- each row, with all entries of the globals at the end of its immediates where they are joined,
-- wherever their line stood
abbrev pub rows_seen : Bool → Records → List Rec
rows_seen false records = records.rows
rows_seen true records = map (with_entries (flat records.globals)) records.rows
