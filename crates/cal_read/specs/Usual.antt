-- Rows that are read in one go from their lines (private).
use Rattle.std.specs.Prelude.{◌≡◌, ◌≢◌, ◌<◌, ℕ, ◌≤◌, List, [], ◌∷◌, ◌++◌, Some, false, Ok}
use Rattle.std.specs.Prelude.{codes, drop, length, map, slice_range, take}
use Rattle.std.specs.List.{All, zip}
use Rattle.std.specs.Str.{IsCharBoundary}
use Rattle.cal_context.specs.Snapshots.{IsIn, meaning, entry_of as imm_entry}
use Rattle.cal_context.specs.Tree.{Tree, attribute_at}
use Rattle.cal_context.specs.declared.numbers.AttributeNumber.{AttributeNumber}
use Rattle.cal_context.specs.declared.snapshot.Immediate.{Immediate}
use Rattle.cal_context.specs.declared.snapshot.Snapshot.{Snapshot}
use Rattle.cal_line.specs.Escapes.{escaped}
use Rattle.cal_line.specs.Fields.{fields_of}
use Rattle.cal_line.specs.Lines.{HasNoNewline}
use Rattle.cal_line.specs.declared.field.Field.{Field}
use Rattle.cal_value.specs.Numerals.{number_of}
use Rattle.cal_value.specs.Reading.{value_of}
use Rattle.cal_value.specs.declared.kind.Kind.{Kind}
use Rattle.cal_value.specs.declared.record.Rec.{Rec}
use Rattle.cal_value.specs.declared.variant.Variant.{Variant}
use Rattle.cal_read.specs.Fields.{each, id_of, repeats_key, sort_of}
use Rattle.cal_read.specs.Nodes.{Named}
use Rattle.cal_read.specs.RecordLines.{entry_of, record_of}
use Rattle.cal_read.specs.declared.sort.Sort.TheVariants.{OfRow}

-- between two places the line is written as it is, and it may be cut at the second
pub record IsPlain (line : List ℕ) (start end : ℕ) : Type 0 where
  pub order : start ≤ end
  pub within : end ≤ length line
  pub boundary : IsCharBoundary line end
  pub written : escaped (slice_range line start end) ≡ slice_range line start end

-- digits between two places write this number
pub record IsNumberAt (line : List ℕ) (start end number : ℕ) : Type 0 where
  pub plain : IsPlain line start end
  pub is : number_of 10 (slice_range line start end) ≡ Some number
  pub small : number ≤ 2000000000000000000

-- the text between two places writes this value of a kind
pub record IsValueAt (kind : Kind) (line : List ℕ) (start end : ℕ) (value : Variant) : Type 0 where
  pub plain : IsPlain line start end
  pub is : value_of kind (slice_range line start end) ≡ Some value

-- these bytes stand between two places
pub record IsThere (line : List ℕ) (start : ℕ) (bytes : List ℕ) (end : ℕ) : Type 0 where
  pub within : end ≤ length line
  pub read : drop start line ≡ bytes ++ drop end line

-- values as they are written, each behind an equals sign
abbrev pub written_values : List (List ℕ) → List ℕ
written_values [] = []
written_values (value ∷ values) = 61 ∷ escaped value ++ written_values values

-- these values are written between two places
pub record AreValues (line : List ℕ) (start end : ℕ) (values : List (List ℕ)) : Type 0 where
  pub within : end ≤ length line
  pub read : drop start line ≡ written_values values ++ drop end line

-- the values between two places are these ids
pub record ReadsIds (line : List ℕ) (start end : ℕ) (ids : List ℕ) : Type 0 where
  pub texts : List (List ℕ)
  pub values : AreValues line start end texts
  pub read : each id_of texts ≡ Ok ids

-- the values between two places are those of immediates with these attributes
pub record ReadsImms (t : Tree) (numbers : List AttributeNumber) (line : List ℕ) (start end : ℕ)
    (imms : List Immediate) : Type 0 where
  pub texts : List (List ℕ)
  pub values : AreValues line start end texts
  pub count : length texts ≡ length numbers
  pub known : All (λ i. i.attribute.0 < length t.attributes) imms
  pub read : each entry_of (zip (map (attribute_at t) numbers) texts)
      ≡ Ok (map (imm_entry t) imms)

-- what is written before the field `attr` of a row with these values of `ref`
abbrev pub written_head : List (List ℕ) → List ℕ
written_head [] = codes "__rec=ctx,"
written_head (text ∷ texts) =
    codes "__rec=ctx,ref" ++ (written_values (text ∷ texts) ++ codes ",")

-- up to this place stands a head with these ids
pub record IsHead (line : List ℕ) (end : ℕ) (refs : List ℕ) : Type 0 where
  pub texts : List (List ℕ)
  pub within : end ≤ length line
  pub whole : line ≡ written_head texts ++ drop end line
  pub read : each id_of texts ≡ Ok refs

-- up to this place stand a head with these ids, ids of attributes, and the key `data`
pub record AreColumns (line : List ℕ) (end : ℕ) (refs ids : List ℕ) : Type 0 where
  pub refs_texts : List (List ℕ)
  pub texts : List (List ℕ)
  pub some : texts ≢ []
  pub within : end ≤ length line
  pub whole : line ≡ written_head refs_texts
      ++ (codes "attr" ++ (written_values texts ++ (codes ",data" ++ drop end line)))
  pub refs_read : each id_of refs_texts ≡ Ok refs
  pub read : each id_of texts ≡ Ok ids

-- up to this place a text has bytes, and none is a newline
pub record IsLineEnd (text : List ℕ) (end : ℕ) : Type 0 where
  pub within : end ≤ length text
  pub some : take end text ≢ []
  pub line : HasNoNewline (take end text)

-- the line is that of a row, which the snapshot means
pub record IsUsualRow (t : Tree) (named : List Named) (line : List ℕ) (snapshot : Snapshot)
    : Type 0 where
  pub fields : List Field
  pub are : fields_of line ≡ Some fields
  pub once : repeats_key fields ≡ false
  pub sorted : sort_of fields ≡ Ok OfRow
  pub row : Rec
  pub read : record_of named fields ≡ Ok row
  pub within : IsIn t snapshot
  pub means : meaning t snapshot ≡ row
