use Rattle.std.specs.Prelude.{◌≡◌, ℕ, Bool, true, false, List, [], ◌∷◌, Option, None, Some, map}
use Rattle.std.specs.List.{slice_split}
use Rattle.std.specs.Option.{option_map, option_and_then}
use Rattle.cal_line.specs.Tokens.{Token, character, comma, equals, byte_of, Spell, tokens_of}
use Rattle.cal_line.specs.declared.field.Field.{Field}

abbrev pub is_comma : Token → Bool
is_comma comma = true
is_comma equals = false
is_comma (character b) = false

abbrev pub is_equals : Token → Bool
is_equals equals = true
is_equals comma = false
is_equals (character b) = false

-- the texts between the equals signs of a field's tokens
abbrev pub pieces_of : List Token → List (List ℕ)
pieces_of tokens = map (map byte_of) (slice_split is_equals tokens)

-- A field is a key, which isn't empty, and one or more values (the `.cali` format).
abbrev pub field_of : List (List ℕ) → Option Field
field_of [] = None
field_of ([] ∷ values) = None
field_of ((b ∷ key) ∷ []) = None
field_of ((b ∷ key) ∷ value ∷ values) = Some (record { key = b ∷ key; values = value ∷ values })

-- the fields of these lists of tokens, where each is a field
abbrev pub all_fields : List (List Token) → Option (List Field)
all_fields [] = Some []
all_fields (tokens ∷ more) =
    option_and_then (λ field. option_map (λ fields. field ∷ fields) (all_fields more))
    (field_of (pieces_of tokens))

-- A line's tokens are one or more fields, with commas between them (the `.cali` format).
abbrev pub fields_among : List Token → Option (List Field)
fields_among tokens = all_fields (slice_split is_comma tokens)

-- The line has these fields: it spells tokens that are these.
abbrev pub IsFields : List ℕ → List Field → Type 0
IsFields line fields =
    (tokens : List Token) × Spell line tokens × (fields_among tokens ≡ Some fields)

-- the fields of a line, where it has them
abbrev pub fields_of : List ℕ → Option (List Field)
fields_of line = option_and_then fields_among (tokens_of line)
