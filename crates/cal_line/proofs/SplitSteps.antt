-- What a splitter has pushed.
use Rattle.std.proofs.Common.{◌≡◌, ◌≢◌, ℕ, ◌+◌, ◌<◌, ◌≤◌, List, [], ◌∷◌, ◌++◌, None, map, length, get_or, drop, refl, sym, ap, ◌∙◌, append_assoc, append-nil, length-append, arith, ◌⊎◌, inl, inr}
use Rattle.std.specs.List.{between}
use Rattle.std.specs.Option.{option_map}
use Rattle.std.proofs.lemmas.List.{map-append, length-map}
use Rattle.std.proofs.lemmas.List.Edits.{between_none, length-between}
use Rattle.std.proofs.lemmas.List.Elements.{All-nil, All-push}
use Rattle.std.proofs.lemmas.Slice.{between_to_end}
use Rattle.std.proofs.Math.Seq.{drop-append_seam}
use Rattle.cal_line.specs.Tokens.{Token, character, equals, onto, tokens_of}
use Rattle.cal_line.specs.Fields.{field_of, fields_of}
use Rattle.cal_line.specs.Spans.{IsSpan, text_of, text_at, value_spans}
use Rattle.cal_line.specs.Steps.{before, value_tokens, further_fields, EndsAtComma, PushesValues, PushesField}
use Rattle.cal_line.specs.declared.spans.Span.{Span}
use Rattle.cal_line.specs.declared.spans.FieldSpans.{FieldSpans}
use Rattle.cal_line.proofs.TokenSteps.{before-nil, before-before, tokens_of-equals, Spell-nil}
use Rattle.cal_line.proofs.FieldSteps.{field_tokens, with_field, value_tokens-append, fields_of-field, field_of-some, field_of-no_value}

pub PushesValues-start : (line : List ℕ) (start : ℕ) (values : List Span) → start ≤ length line → PushesValues line start values values start
PushesValues-start line start values within = record {
  more = [];
  pushed = sym (append-nil values);
  spans = All-nil (IsSpan line);
  order = omega arith;
  within = within;
  read = sym (before-nil (tokens_of (drop start line)));
}

-- a value more, behind an equals sign
pub PushesValues-more : (line : List ℕ) (start place : ℕ) (old values : List Span) (span : Span) → PushesValues line start old values place → place < length line → get_or line place 0 ≡ 61 → IsSpan line span → span.start ≡ place + 1
    → tokens_of (drop (place + 1) line) ≡ before (map character (text_at line span)) (tokens_of (drop span.end line)) → PushesValues line start old (values ++ span ∷ []) span.end
PushesValues-more line start place old values span pushes within sign is_span at read =
    let texts = map (text_at line) pushes.more in
    let rest = tokens_of (drop span.end line) in
    let tokens : value_tokens texts ++ value_tokens (text_at line span ∷ []) ≡ value_tokens (map (text_at line) (pushes.more ++ span ∷ [])) =
    sym (value_tokens-append texts (text_at line span ∷ [])) ∙ ap value_tokens (sym (map-append (text_at line) pushes.more (span ∷ [])))
    in
    record {
      more = pushes.more ++ span ∷ [];
      pushed = ap (λ (front : List Span). front ++ span ∷ []) pushes.pushed ∙ append_assoc old pushes.more (span ∷ []);
      spans = All-push (IsSpan line) pushes.more span pushes.spans is_span;
      order = omega (arith, pushes.order, is_span.order);
      within = is_span.within;
      read = pushes.read
          ∙ ap (before (value_tokens texts)) (tokens_of-equals line place within sign ∙ ap (onto equals) read ∙ before-before (equals ∷ []) (map character (text_at line span)) rest)
          ∙ ap (λ (more : List Token). before (value_tokens texts) (before more rest)) (sym (append-nil (equals ∷ map character (text_at line span))))
          ∙ before-before (value_tokens texts) (value_tokens (text_at line span ∷ [])) rest
          ∙ ap (λ (front : List Token). before front rest) tokens;
    }

-- the tokens of a field, key and values
pub tokens_of-field : (line : List ℕ) (start : ℕ) (key : Span) (end : ℕ) (old values : List Span) → tokens_of (drop start line) ≡ before (map character (text_at line key)) (tokens_of (drop key.end line)) → (pushes : PushesValues line key.end old values end)
    → tokens_of (drop start line) ≡ before (field_tokens (text_at line key) (map (text_at line) pushes.more)) (tokens_of (drop end line))
tokens_of-field line start key end old values read pushes =
    read
    ∙ ap (before (map character (text_at line key))) pushes.read
    ∙ before-before (map character (text_at line key)) (value_tokens (map (text_at line) pushes.more)) (tokens_of (drop end line))

-- an empty span spells no text, and no other does
text_at-empty : (line : List ℕ) (span : Span) → span.end ≡ span.start → text_at line span ≡ []
text_at-empty line span same = ap (λ end. text_of (between span.start end line)) same ∙ ap text_of (between_none line span.start)

text_at-some : (line : List ℕ) (span : Span) → IsSpan line span → span.end ≢ span.start → text_at line span ≢ []
text_at-some line span is_span some none =
    let written : between span.start span.end line ≡ [] = Spell-nil (between span.start span.end line) (map character (text_at line span)) is_span.written.piece (ap (map character) none) in
    some (omega (arith, is_span.order, ap length written, length-between line span.start span.end is_span.within))

-- where the key is empty or no value follows, there are no fields
pub fields_of-no_field : (line : List ℕ) (start : ℕ) (key : Span) (end : ℕ) (old values : List Span) → IsSpan line key → key.start ≡ start → tokens_of (drop start line) ≡ before (map character (text_at line key)) (tokens_of (drop key.end line)) → PushesValues line key.end old values end → EndsAtComma line end
    → (key.end ≡ start) ⊎ (length values ≡ length old) → fields_of (drop start line) ≡ None
fields_of-no_field line start key end old values is_span at read pushes stop none =
    fields_of-field line (text_at line key) (map (text_at line) pushes.more) start end (tokens_of-field line start key end old values read pushes) stop
    ∙ ap (λ first. with_field first (further_fields (drop end line))) (elim none [
      | inl empty ↦ ap (λ text. field_of (text ∷ map (text_at line) pushes.more)) (text_at-empty line key (empty ∙ sym at))
      | inr same ↦ (
          let nothing : pushes.more ≡ [] = no_more pushes.more (omega (arith, ap length pushes.pushed, length-append old pushes.more)) in
          ap (λ more. field_of (text_at line key ∷ map (text_at line) more)) nothing ∙ field_of-no_value (text_at line key))
    ])
  where
    no_more : (spans : List Span) → length spans ≡ 0 → spans ≡ []
    no_more [] e = refl
    no_more (span ∷ spans) e = absurd (omega arith)

-- what is pushed behind a list is found behind it
between-pushed : (old more new : List Span) → new ≡ old ++ more → between (length old) (length new) new ≡ more
between-pushed old more new pushed =
    between_to_end new (length old) (length new) (omega arith) ∙ ap (drop (length old)) pushed ∙ drop-append_seam old more

pub PushesField-values : (line : List ℕ) (start : ℕ) (key : Span) (first after end : ℕ) (fields : List FieldSpans) (old values : List Span) → IsSpan line key → key.start ≡ start → tokens_of (drop start line) ≡ before (map character (text_at line key)) (tokens_of (drop key.end line)) → PushesValues line key.end old values end → EndsAtComma line end
    → first ≡ length old → after ≡ length values → key.end ≢ start → after ≢ first → PushesField line start fields old (fields ++ record { key = key; first = first; after = after } ∷ []) values end
PushesField-values line start key first after end fields old values is_span at read pushes stop first_is after_is some_key some_value =
    let field : FieldSpans = record { key = key; first = first; after = after } in
    let texts : map (text_at line) pushes.more ≡ map (text_at line) (value_spans values field) =
    ap (map (text_at line)) (sym (rw (first_is, after_is) (between-pushed old pushes.more values pushes.pushed)))
    in
    record {
      field = field;
      pushed = refl;
      spans = record { of_key = is_span; order = omega (arith, ap length pushes.pushed, length-append old pushes.more); within = omega arith };
      more = pushes.more;
      pushed_values = pushes.pushed;
      value_spans = pushes.spans;
      order = omega (arith, is_span.order, pushes.order, at);
      within = pushes.within;
      read = fields_of-field line (text_at line key) (map (text_at line) pushes.more) start end (tokens_of-field line start key end old values read pushes) stop
          ∙ ap (λ first. with_field first (further_fields (drop end line))) (field_of-some (text_at line key) (map (text_at line) pushes.more) (text_at-some line key is_span (λ same. some_key (same ∙ at))) some_values)
          ∙ ap (λ (values : List (List ℕ)). option_map (λ rest. record { key = text_at line key; values = values } ∷ rest) (further_fields (drop end line))) texts;
    }
  where
    some_values : map (text_at line) pushes.more ≢ []
    some_values none = some_value (omega (arith, ap length pushes.pushed, length-append old pushes.more, ap length none, length-map pushes.more (text_at line)))
