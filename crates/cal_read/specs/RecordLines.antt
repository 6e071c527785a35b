-- What a `ctx` or `globals` line says.
use Rattle.std.specs.Prelude.{ℕ, ◌==◌, List, Result, Ok, Err, codes, length, map, if◌then◌else◌}
use Rattle.std.specs.List.{zip}
use Rattle.cal_line.specs.FirstFault.{◌>>=◌}
use Rattle.cal_line.specs.declared.field.Field.{Field}
use Rattle.cal_value.specs.Reading.{value_of}
use Rattle.cal_value.specs.declared.attribute.Attribute.{Attribute}
use Rattle.cal_value.specs.declared.attribute.Entry.{Entry}
use Rattle.cal_value.specs.declared.record.Rec.{Rec}
use Rattle.cal_read.specs.Fields.{or_fault, each, values_of, id_of}
use Rattle.cal_read.specs.NodeLines.{known, as_attribute}
use Rattle.cal_read.specs.Nodes.{Named, path_of}
use Rattle.cal_read.specs.declared.kind.StreamKind.{StreamKind}
use Rattle.cal_read.specs.declared.kind.StreamKind.TheVariants as kind

-- an attribute with the value of its kind that a text has
abbrev pub entry_of : Attribute × List ℕ → Result Entry StreamKind
entry_of pair = do
  value ← or_fault kind.BadValue (value_of pair.0.kind pair.1)
  Ok (record { attr = pair.0; value = value })

-- the record of these ids of nodes, ids of attributes, and texts of values
abbrev pub record_of_ids : List Named → List ℕ → List ℕ → List (List ℕ) → Result Rec StreamKind
record_of_ids nodes refs columns texts = do
  ends ← each (known nodes) refs
  named ← each (known nodes) columns
  attributes ← each as_attribute named
  imms ← each entry_of (zip attributes texts)
  Ok (record { paths = map path_of ends; imms = imms })

-- The record of a line: the paths of the nodes of `ref`, and the entries that pair `attr` with
-- `data`, which have equally many values (the `.cali` format).
abbrev pub record_of : List Named → List Field → Result Rec StreamKind
record_of nodes fields =
    if length (values_of (codes "attr") fields) == length (values_of (codes "data") fields) then (do
      refs ← each id_of (values_of (codes "ref") fields)
      columns ← each id_of (values_of (codes "attr") fields)
      record_of_ids nodes refs columns (values_of (codes "data") fields))
    else Err kind.Uneven
