-- How the tokens of a line are cut into fields.
use Rattle.std.proofs.Common.{◌≡◌, ◌≢◌, ℕ, ◌+◌, false, List, [], ◌∷◌, ◌++◌, Option, None, Some, map, length, drop, refl, sym, ap, ◌∙◌, append_assoc, append-nil, inl, inr}
use Rattle.std.specs.List.{All}
use Rattle.std.specs.Option.{option_map, option_and_then}
use Rattle.std.proofs.lemmas.Bool.{cases_lt}
use Rattle.std.proofs.lemmas.List.{drop_more, drop_all}
use Rattle.std.proofs.lemmas.List.Elements.{All-nil, All-cons, All-append, All-map}
use Rattle.std.proofs.lemmas.List.Splits.{slice_split_none, slice_split_at}
use Rattle.cal_line.specs.Tokens.{Token, character, comma, equals, tokens_of, byte_of}
use Rattle.cal_line.specs.Fields.{is_comma, is_equals, pieces_of, field_of, all_fields, fields_among, fields_of, IsFields}
use Rattle.cal_line.specs.Steps.{before, value_tokens, further_fields, EndsAtComma}
use Rattle.cal_line.specs.declared.field.Field.{Field}
use Rattle.cal_line.proofs.TokenSteps.{tokens_of-spelled, Spell-tokens_of, tokens_of-comma, bytes_of-characters}

-- the fields of a line, by the spelling and by the reading of its tokens
pub fields_of-IsFields : (line : List ℕ) (fields : List Field) → IsFields line fields → fields_of line ≡ Some fields
fields_of-IsFields line fields whole = rw (tokens_of-spelled whole.1) whole.2

pub IsFields-fields_of : (line : List ℕ) (fields : List Field) → fields_of line ≡ Some fields → IsFields line fields
IsFields-fields_of line fields read = by_tokens (tokens_of line) refl (read)
  where
    by_tokens : (found : Option (List Token)) → tokens_of line ≡ found → option_and_then fields_among found ≡ Some fields → IsFields line fields
    by_tokens None is read = absurd (cc)
    by_tokens (Some tokens) is read = (tokens, Spell-tokens_of line tokens is, read)

-- the characters of a text are no marks
characters-no_comma : (text : List ℕ) → All (λ token. is_comma token ≡ false) (map character text)
characters-no_comma text = All-map (λ token. is_comma token ≡ false) character text (λ k d within. refl)

characters-no_equals : (text : List ℕ) → All (λ token. is_equals token ≡ false) (map character text)
characters-no_equals text = All-map (λ token. is_equals token ≡ false) character text (λ k d within. refl)

-- the tokens of a field: its key, and its values, each behind an equals sign
abbrev pub field_tokens : List ℕ → List (List ℕ) → List Token
field_tokens key values = map character key ++ value_tokens values

values-no_comma : (values : List (List ℕ)) → All (λ token. is_comma token ≡ false) (value_tokens values)
values-no_comma [] = All-nil (λ token. is_comma token ≡ false)
values-no_comma (value ∷ values) =
    All-append (λ token. is_comma token ≡ false) (equals ∷ map character value) (value_tokens values) (All-cons (λ token. is_comma token ≡ false) equals (map character value) refl (characters-no_comma value)) (values-no_comma values)

pub field-no_comma : (key : List ℕ) (values : List (List ℕ)) → All (λ token. is_comma token ≡ false) (field_tokens key values)
field-no_comma key values = All-append (λ token. is_comma token ≡ false) (map character key) (value_tokens values) (characters-no_comma key) (values-no_comma values)

-- the pieces of a field's tokens
pub pieces_of-field : (key : List ℕ) (values : List (List ℕ)) → pieces_of (field_tokens key values) ≡ key ∷ values
pieces_of-field key [] =
    ap pieces_of (append-nil (map character key))
    ∙ ap (map (map byte_of)) (slice_split_none is_equals (map character key) (characters-no_equals key))
    ∙ ap (λ text. text ∷ []) (bytes_of-characters key)
pieces_of-field key (value ∷ values) =
    ap (map (map byte_of)) (slice_split_at is_equals (map character key) equals (field_tokens value values) (characters-no_equals key) refl)
    ∙ ap (λ text. text ∷ pieces_of (field_tokens value values)) (bytes_of-characters key)
    ∙ ap (λ pieces. key ∷ pieces) (pieces_of-field value values)

-- one field more, before these
abbrev pub with_field : Option Field → Option (List Field) → Option (List Field)
with_field first more = option_and_then (λ field. option_map (λ fields. field ∷ fields) more) first

-- a line that is one field, and one that goes on behind it
pub fields_among-last : (key : List ℕ) (values : List (List ℕ)) → fields_among (field_tokens key values) ≡ with_field (field_of (key ∷ values)) (Some [])
fields_among-last key values =
    ap all_fields (slice_split_none is_comma (field_tokens key values) (field-no_comma key values))
    ∙ ap (λ pieces. with_field (field_of pieces) (Some [])) (pieces_of-field key values)

pub fields_among-more : (key : List ℕ) (values : List (List ℕ)) (rest : List Token) → fields_among (field_tokens key values ++ comma ∷ rest) ≡ with_field (field_of (key ∷ values)) (fields_among rest)
fields_among-more key values rest =
    ap all_fields (slice_split_at is_comma (field_tokens key values) comma rest (field-no_comma key values) refl)
    ∙ ap (λ pieces. with_field (field_of pieces) (fields_among rest)) (pieces_of-field key values)

-- values of one list and then of another
pub value_tokens-append : (xs ys : List (List ℕ)) → value_tokens (xs ++ ys) ≡ value_tokens xs ++ value_tokens ys
value_tokens-append [] ys = refl
value_tokens-append (x ∷ xs) ys =
    ap (λ more. equals ∷ map character x ++ more) (value_tokens-append xs ys)
    ∙ sym (append_assoc (equals ∷ map character x) (value_tokens xs) (value_tokens ys))

-- the fields of a line from one field on: that one, and those behind it
with_field-none : (first : Option Field) → with_field first None ≡ None
with_field-none None = refl
with_field-none (Some field) = refl

fields_among-comma : (key : List ℕ) (values : List (List ℕ)) (rest : Option (List Token)) → option_and_then fields_among (before (field_tokens key values) (before (comma ∷ []) rest)) ≡ with_field (field_of (key ∷ values)) (option_and_then fields_among rest)
fields_among-comma key values None = sym (with_field-none (field_of (key ∷ values)))
fields_among-comma key values (Some rest) = fields_among-more key values rest

pub fields_of-field : (line key : List ℕ) (values : List (List ℕ)) (start end : ℕ) → tokens_of (drop start line) ≡ before (field_tokens key values) (tokens_of (drop end line)) → EndsAtComma line end → fields_of (drop start line) ≡ with_field (field_of (key ∷ values)) (further_fields (drop end line))
fields_of-field line key values start end read stop =
    ap (option_and_then fields_among) read
    ∙ elim (cases_lt end (length line)) [
      | inl within ↦ (
          let rest : drop end line ≡ 44 ∷ drop (end + 1) line =
          drop_more line end 0 within ∙ ap (λ (b : ℕ). b ∷ drop (end + 1) line) (stop within)
          in
          ap (λ bytes. option_and_then fields_among (before (field_tokens key values) (tokens_of bytes))) rest
          ∙ ap (λ more. option_and_then fields_among (before (field_tokens key values) more)) (tokens_of-comma (drop (end + 1) line))
          ∙ fields_among-comma key values (tokens_of (drop (end + 1) line))
          ∙ ap (λ bytes. with_field (field_of (key ∷ values)) (further_fields bytes)) (sym rest))
      | inr past ↦ (
          let none : drop end line ≡ [] = drop_all end line past in
          ap (λ bytes. option_and_then fields_among (before (field_tokens key values) (tokens_of bytes))) none
          ∙ ap fields_among (append-nil (field_tokens key values))
          ∙ fields_among-last key values
          ∙ ap (λ bytes. with_field (field_of (key ∷ values)) (further_fields bytes)) (sym none))
    ]

-- a key and a value are a field
pub field_of-some : (key : List ℕ) (values : List (List ℕ)) → key ≢ [] → values ≢ [] → field_of (key ∷ values) ≡ Some (record { key = key; values = values })
field_of-some [] values some_key some_value = absurd (some_key refl)
field_of-some (b ∷ key) [] some_key some_value = absurd (some_value refl)
field_of-some (b ∷ key) (value ∷ values) some_key some_value = refl

-- no key, or no value, is none
pub field_of-no_value : (key : List ℕ) → field_of (key ∷ []) ≡ None
field_of-no_value [] = refl
field_of-no_value (b ∷ key) = refl
