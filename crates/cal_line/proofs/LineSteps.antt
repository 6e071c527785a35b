-- What a splitter has read of a line.
use Rattle.std.proofs.Common.{◌≡◌, ℕ, ◌+◌, ◌<◌, ◌≤◌, List, [], ◌∷◌, ◌++◌, Option, None, Some, map, length, drop, refl, sym, ap, ◌∙◌, append_assoc, length-append, arith}
use Rattle.std.specs.List.{All}
use Rattle.std.specs.Option.{option_map}
use Rattle.std.proofs.lemmas.List.{map-append, drop_more, take-append-le}
use Rattle.std.proofs.lemmas.List.Elements.{All-nil, All-head, All-tail, All-append, All-push, All-weaker}
use Rattle.std.proofs.lemmas.Slice.{between_is}
use Rattle.cal_line.specs.Fields.{fields_of}
use Rattle.cal_line.specs.Spans.{IsSpan, IsFieldAt, AreSpans, text_at, value_spans, field_at, fields_at}
use Rattle.cal_line.specs.Steps.{further_fields, EndsAtComma, PushesField}
use Rattle.cal_line.specs.declared.field.Field.{Field}
use Rattle.cal_line.specs.declared.spans.Span.{Span}
use Rattle.cal_line.specs.declared.spans.FieldSpans.{FieldSpans}

-- these fields, and then more
abbrev pub fields_before : List Field → Option (List Field) → Option (List Field)
fields_before fields more = option_map (λ rest. fields ++ rest) more

fields_before-nil : (more : Option (List Field)) → fields_before [] more ≡ more
fields_before-nil None = refl
fields_before-nil (Some rest) = refl

fields_before-push : (fields : List Field) (field : Field) (more : Option (List Field)) → fields_before fields (option_map (λ rest. field ∷ rest) more) ≡ fields_before (fields ++ field ∷ []) more
fields_before-push fields field None = refl
fields_before-push fields field (Some rest) = ap Some (sym (append_assoc fields (field ∷ []) rest))

-- Up to this place, where a field ends, the fields of the line are at these spans.
pub record ReadsFields (line : List ℕ) (values : List Span) (fields : List FieldSpans) (place : ℕ) : Type 0 where
  pub spans : AreSpans line values fields
  pub within : place ≤ length line
  pub stop : EndsAtComma line place
  pub read : fields_of line ≡ fields_before (fields_at line values fields) (further_fields (drop place line))

-- the spans of a field stay where values are pushed
value_spans-front : (values more : List Span) (field : FieldSpans) → field.after ≤ length values → value_spans (values ++ more) field ≡ value_spans values field
value_spans-front values more field within =
    between_is (values ++ more) field.first field.after
    ∙ ap (drop field.first) (take-append-le field.after values more within)
    ∙ sym (between_is values field.first field.after)

fields_at-front : (line : List ℕ) (values more : List Span) (fields : List FieldSpans) → All (IsFieldAt line values) fields → fields_at line (values ++ more) fields ≡ fields_at line values fields
fields_at-front line values more [] spans = refl
fields_at-front line values more (field ∷ fields) spans =
    let first = All-head (IsFieldAt line values) field fields spans in
    let same : field_at line (values ++ more) field ≡ field_at line values field =
    ap (λ (own : List Span). record { key = text_at line field.key; values = map (text_at line) own }) (value_spans-front values more field first.within)
    in
    ap (λ (front : Field). front ∷ fields_at line (values ++ more) fields) same
    ∙ ap (λ (rest : List Field). field_at line values field ∷ rest) (fields_at-front line values more fields (All-tail (IsFieldAt line values) field fields spans))

AreSpans-pushed : (line : List ℕ) (values more : List Span) (fields : List FieldSpans) (field : FieldSpans) → AreSpans line values fields → All (IsSpan line) more → IsFieldAt line (values ++ more) field → AreSpans line (values ++ more) (fields ++ field ∷ [])
AreSpans-pushed line values more fields field spans of_more of_field = record {
  of_values = All-append (IsSpan line) values more spans.of_values of_more;
  of_fields = All-push (IsFieldAt line (values ++ more)) fields field
      (All-weaker (IsFieldAt line values) (IsFieldAt line (values ++ more)) (λ old is_field. record { of_key = is_field.of_key; order = is_field.order; within = omega (arith, is_field.within, length-append values more) }) fields spans.of_fields)
      of_field;
}

-- a field more, from the start of the line or behind a comma
pub ReadsFields-more : (line : List ℕ) (values new_values : List Span) (fields new_fields : List FieldSpans) (start end : ℕ) → AreSpans line values fields → fields_of line ≡ fields_before (fields_at line values fields) (fields_of (drop start line))
    → PushesField line start fields values new_fields new_values end → EndsAtComma line end → ReadsFields line new_values new_fields end
ReadsFields-more line values new_values fields new_fields start end spans so_far pushes stop =
    let field = pushes.field in
    let of_field : IsFieldAt line (values ++ pushes.more) field = rw pushes.pushed_values at pushes.spans in
    let field_is : field_at line new_values field ≡ field_at line (values ++ pushes.more) field = ap (λ (all : List Span). field_at line all field) pushes.pushed_values in
    let fields_are : fields_at line values fields ++ field_at line new_values field ∷ [] ≡ fields_at line new_values new_fields =
    ap (λ (front : List Field). front ++ field_at line new_values field ∷ []) (sym (fields_at-front line values pushes.more fields spans.of_fields) ∙ ap (λ (all : List Span). fields_at line all fields) (sym pushes.pushed_values))
    ∙ sym (map-append (field_at line new_values) fields (field ∷ []))
    ∙ ap (fields_at line new_values) (sym pushes.pushed)
    in
    record {
      spans = rw (pushes.pushed_values, pushes.pushed) (AreSpans-pushed line values pushes.more fields field spans pushes.value_spans of_field);
      within = pushes.within;
      stop = stop;
      read = so_far
          ∙ ap (fields_before (fields_at line values fields)) pushes.read
          ∙ fields_before-push (fields_at line values fields) (field_at line new_values field) (further_fields (drop end line))
          ∙ ap (λ (front : List Field). fields_before front (further_fields (drop end line))) fields_are;
    }

pub AreSpans-none : (line : List ℕ) → AreSpans line [] []
AreSpans-none line = record { of_values = All-nil (IsSpan line); of_fields = All-nil (IsFieldAt line []) }

pub fields_of-start : (line : List ℕ) → fields_of line ≡ fields_before [] (fields_of (drop 0 line))
fields_of-start line = sym (fields_before-nil (fields_of line))

-- what was read before a comma, and what is read behind it
pub fields_of-comma : (line : List ℕ) (values : List Span) (fields : List FieldSpans) (place : ℕ) → ReadsFields line values fields place → place < length line → fields_of line ≡ fields_before (fields_at line values fields) (fields_of (drop (place + 1) line))
fields_of-comma line values fields place reads within =
    reads.read ∙ ap (λ bytes. fields_before (fields_at line values fields) (further_fields bytes)) (drop_more line place 0 within)
