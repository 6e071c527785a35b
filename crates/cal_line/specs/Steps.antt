-- What the steps of a splitter do (private).
use Rattle.std.specs.Prelude.{◌≡◌, ℕ, ◌<◌, ◌≤◌, true, ◌==◌, ◌||◌, List, [], ◌∷◌, ◌++◌}
use Rattle.std.specs.Prelude.{Option, Some, map, length, drop, slice_index}
use Rattle.std.specs.List.{All}
use Rattle.std.specs.Option.{option_map}
use Rattle.cal_line.specs.Tokens.{Token, character, equals, tokens_of}
use Rattle.cal_line.specs.Fields.{fields_of}
use Rattle.cal_line.specs.Spans.{IsSpan, IsFieldAt, AreSpans, text_at, field_at, fields_at}
use Rattle.cal_line.specs.declared.field.Field.{Field}
use Rattle.cal_line.specs.declared.spans.Span.{Span}
use Rattle.cal_line.specs.declared.spans.FieldSpans.{FieldSpans}

-- these tokens, and then more
abbrev pub before : List Token → Option (List Token) → Option (List Token)
before tokens more = option_map (λ rest. tokens ++ rest) more

-- a mark stands here, or the line ends
abbrev pub EndsAtMark : List ℕ → ℕ → Type 0
EndsAtMark line place =
    place < length line → (slice_index line place == 44 || slice_index line place == 61) ≡ true

-- a comma stands here, or the line ends
abbrev pub EndsAtComma : List ℕ → ℕ → Type 0
EndsAtComma line place = place < length line → slice_index line place ≡ 44

-- the tokens of values, each behind an equals sign
abbrev pub value_tokens : List (List ℕ) → List Token
value_tokens [] = []
value_tokens (value ∷ values) = equals ∷ map character value ++ value_tokens values

-- the fields behind the place where a field ends
abbrev pub further_fields : List ℕ → Option (List Field)
further_fields [] = Some []
further_fields (comma ∷ bytes) = fields_of bytes

-- The spans of values from one place up to another are pushed.
pub record PushesValues (line : List ℕ) (start : ℕ) (old new : List Span) (end : ℕ) : Type 0 where
  pub more : List Span
  pub pushed : new ≡ old ++ more
  pub spans : All (IsSpan line) more
  pub order : start ≤ end
  pub within : end ≤ length line
  pub read : tokens_of (drop start line)
      ≡ before (value_tokens (map (text_at line) more)) (tokens_of (drop end line))

-- The spans of a field from one place up to another are pushed, and those of its values.
pub record PushesField (line : List ℕ) (start : ℕ) (fields : List FieldSpans) (values : List Span)
    (new_fields : List FieldSpans) (new_values : List Span) (end : ℕ) : Type 0 where
  pub field : FieldSpans
  pub pushed : new_fields ≡ fields ++ field ∷ []
  pub spans : IsFieldAt line new_values field
  pub more : List Span
  pub pushed_values : new_values ≡ values ++ more
  pub value_spans : All (IsSpan line) more
  pub order : start ≤ end
  pub within : end ≤ length line
  pub read : fields_of (drop start line)
      ≡ option_map (λ rest. field_at line new_values field ∷ rest) (further_fields (drop end line))

-- The spans are those of the line's fields.
pub record SplitsLine (line : List ℕ) (values : List Span) (fields : List FieldSpans) : Type 0 where
  pub spans : AreSpans line values fields
  pub read : fields_of line ≡ Some (fields_at line values fields)
