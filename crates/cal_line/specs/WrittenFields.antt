use Rattle.std.specs.Prelude.{◌≢◌, ℕ, List, [], ◌∷◌, ◌++◌}
use Rattle.cal_line.specs.Escapes.{escaped}
use Rattle.cal_line.specs.declared.field.Field.{Field}

-- what can be written: a key that isn't empty, and at least one value
pub record IsWritable (field : Field) : Type 0 where
  pub key : field.key ≢ []
  pub values : field.values ≢ []

-- pieces as they are written, with equals signs between them
abbrev pub written_pieces : List ℕ → List (List ℕ) → List ℕ
written_pieces piece [] = escaped piece
written_pieces piece (next ∷ pieces) = escaped piece ++ 61 ∷ written_pieces next pieces

-- fields as they are written, with commas between them
abbrev pub written_fields : Field → List Field → List ℕ
written_fields field [] = written_pieces field.key field.values
written_fields field (next ∷ fields) =
    written_pieces field.key field.values ++ 44 ∷ written_fields next fields
