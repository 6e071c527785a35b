-- Where the pieces of a line stand (private).
use Rattle.std.specs.Prelude.{◌≡◌, ℕ, ◌≤◌, Bool, false, List, [], map, length, slice_range}
use Rattle.std.specs.Prelude.{unwrap_or}
use Rattle.std.specs.List.{All}
use Rattle.std.specs.Str.{IsCharBoundary}
use Rattle.cal_line.specs.Tokens.{IsPiece, spelled_text}
use Rattle.cal_line.specs.declared.field.Field.{Field}
use Rattle.cal_line.specs.declared.spans.Span.{Span}
use Rattle.cal_line.specs.declared.spans.FieldSpans.{FieldSpans}

-- the text that written bytes spell
abbrev pub text_of : List ℕ → List ℕ
text_of written = unwrap_or (spelled_text written) []

-- the bytes of a span, and the text that they spell
abbrev pub written_at : List ℕ → Span → List ℕ
written_at line span = slice_range line span.start span.end

abbrev pub text_at : List ℕ → Span → List ℕ
text_at line span = text_of (written_at line span)

-- Written bytes that spell a text, which is these bytes where they have no escape.
pub record IsWritten (written : List ℕ) (has_escape : Bool) : Type 0 where
  pub piece : IsPiece written (text_of written)
  pub plain : has_escape ≡ false → text_of written ≡ written

-- A span is of this line, and its bytes spell a text.
pub record IsSpan (line : List ℕ) (span : Span) : Type 0 where
  pub order : span.start ≤ span.end
  pub within : span.end ≤ length line
  pub start : IsCharBoundary line span.start
  pub end : IsCharBoundary line span.end
  pub written : IsWritten (written_at line span) span.has_escape

-- the spans of a field's values
abbrev pub value_spans : List Span → FieldSpans → List Span
value_spans values field = slice_range values field.first field.after

-- the field at these spans
abbrev pub field_at : List ℕ → List Span → FieldSpans → Field
field_at line values field =
    record { key = text_at line field.key; values = map (text_at line) (value_spans values field) }

abbrev pub fields_at : List ℕ → List Span → List FieldSpans → List Field
fields_at line values fields = map (field_at line values) fields

-- a field's key is of this line, and its values stand among the spans of values
pub record IsFieldAt (line : List ℕ) (values : List Span) (field : FieldSpans) : Type 0 where
  pub of_key : IsSpan line field.key
  pub order : field.first ≤ field.after
  pub within : field.after ≤ length values

-- all spans are of this line
pub record AreSpans (line : List ℕ) (values : List Span) (fields : List FieldSpans) : Type 0 where
  pub of_values : All (IsSpan line) values
  pub of_fields : All (IsFieldAt line values) fields
