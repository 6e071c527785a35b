-- Attributes of a row that are known by their text (private).
use Rattle.std.specs.Prelude.{◌≢◌, ℕ, ◌++◌, List, [], Option, Some, None, codes}
use Rattle.cal_context.specs.declared.numbers.AttributeNumber.{AttributeNumber}
use Rattle.cal_line.specs.Fields.{fields_of}
use Rattle.cal_line.specs.declared.field.Field.{Field}
use Rattle.cal_read.specs.Fields.{values_of}
use Rattle.cal_read.specs.Usual.{IsThere, ReadsIds}
use Rattle.cal_read.specs.UsualColumns.{NumbersAre}
use Rattle.cal_read.specs.declared.nodes.Nodes.{Nodes}

-- fields, or none
abbrev pub fields_or_none : Option (List Field) → List Field
fields_or_none None = []
fields_or_none (Some fields) = fields

-- the values that are written so behind a key
unfoldable pub texts_in : List ℕ → List (List ℕ)
texts_in text = values_of (codes "attr") (fields_or_none (fields_of (codes "attr" ++ text)))

-- the values between two places are these ids, of which there are some
pub record SpellsIds (line : List ℕ) (start end : ℕ) (ids : List ℕ) : Type 0 where
  pub read : ReadsIds line start end ids
  pub some : read.texts ≢ []

-- ids stand at a place, and the key `data` behind them, up to another
pub record NamesIds (line : List ℕ) (start end : ℕ) (ids : List ℕ) : Type 0 where
  pub last : ℕ
  pub spelled : SpellsIds line start last ids
  pub key : IsThere line last (codes ",data") end

-- the same of ids of attributes with these numbers
pub record NamesAttributes (nodes : Nodes) (line : List ℕ) (start end : ℕ)
    (numbers : List AttributeNumber) : Type 0 where
  pub ids : List ℕ
  pub named : NamesIds line start end ids
  pub are : NumbersAre nodes ids numbers
