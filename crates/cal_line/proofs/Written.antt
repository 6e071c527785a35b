-- What is written spells what it is written of.
use Rattle.std.proofs.Common.{◌≡◌, ℕ, Bool, true, false, ◌||◌, eqb, List, [], ◌∷◌, ◌++◌, Some, map, refl, ap, subst, ◌∙◌, append-nil, arith, eqb-true}
use Rattle.std.specs.List.{AllByRecursion}
use Rattle.std.proofs.lemmas.Bool.{eqb-false}
use Rattle.std.proofs.lemmas.Bool.Decides.{nat_tests}
use Rattle.cal_line.specs.Escapes.{escaped, escaped_byte}
use Rattle.cal_line.specs.Tokens.{character, comma, token, taken, Spell, nothing, itself, behind_backslash, IsPiece}
use Rattle.cal_line.specs.Fields.{fields_among, IsFields}
use Rattle.cal_line.specs.WrittenFields.{IsWritable, written_pieces, written_fields}
use Rattle.cal_line.specs.declared.field.Field.{Field}
use Rattle.cal_line.proofs.TokenSteps.{Spell-append}
use Rattle.cal_line.proofs.FieldSteps.{field_tokens, with_field, fields_among-last, fields_among-more, field_of-some}

Spell-escaped_byte : (b : ℕ) (p q : Bool) → eqb b 10 ≡ p → (eqb b 92 || eqb b 44 || eqb b 61) ≡ q → Spell (escaped_byte b) (character b ∷ [])
Spell-escaped_byte b true q newline special = rw (eqb-true b 10 newline) (behind_backslash nothing)
Spell-escaped_byte b false true newline special =
    let letter : eqb b 110 ≡ false = grind (arith, nat_tests) in
    let is : taken b ≡ character b = simp letter in
    let written : escaped_byte b ≡ 92 ∷ b ∷ [] = simp (newline, special) in
    rw written (subst (λ c. Spell (92 ∷ b ∷ []) (c ∷ [])) is (behind_backslash nothing))
Spell-escaped_byte b false false newline special =
    let no_comma : eqb b 44 ≡ false = grind (arith, nat_tests) in
    let no_equals : eqb b 61 ≡ false = grind (arith, nat_tests) in
    let plain : eqb b 92 ≡ false = grind (arith, nat_tests) in
    let is : token b ≡ character b = simp (no_comma, no_equals) in
    let written : escaped_byte b ≡ b ∷ [] = simp (newline, special) in
    rw written (subst (λ c. Spell (b ∷ []) (c ∷ [])) is (itself (eqb-false b 92 plain) nothing))

-- what is written of a text is a piece that spells it
pub IsPiece-escaped : (text : List ℕ) → IsPiece (escaped text) text
IsPiece-escaped [] = nothing
IsPiece-escaped (b ∷ text) =
    Spell-append (Spell-escaped_byte b (eqb b 10) (eqb b 92 || eqb b 44 || eqb b 61) refl refl) (IsPiece-escaped text)

-- and so with the pieces of a field, and with fields
Spell-written_pieces : (key : List ℕ) (values : List (List ℕ)) → Spell (written_pieces key values) (field_tokens key values)
Spell-written_pieces key [] = rw (append-nil (map character key)) (IsPiece-escaped key)
Spell-written_pieces key (value ∷ values) =
    Spell-append (IsPiece-escaped key) (itself {b = 61} (eqb-false 61 92 refl) (Spell-written_pieces value values))

pub IsFields-written : (field : Field) (fields : List Field) → AllByRecursion IsWritable (field ∷ fields) → IsFields (written_fields field fields) (field ∷ fields)
IsFields-written field [] writable = (
  field_tokens field.key field.values,
  Spell-written_pieces field.key field.values,
  fields_among-last field.key field.values ∙ ap (λ first. with_field first (Some [])) (field_of-some field.key field.values writable.0.key writable.0.values),
)
IsFields-written field (next ∷ fields) writable =
    let more = IsFields-written next fields writable.1 in (
      field_tokens field.key field.values ++ comma ∷ more.0,
      Spell-append (Spell-written_pieces field.key field.values) (itself {b = 44} (eqb-false 44 92 refl) more.1),
      fields_among-more field.key field.values more.0
          ∙ ap (λ first. with_field first (fields_among more.0)) (field_of-some field.key field.values writable.0.key writable.0.values)
          ∙ ap (with_field (Some field)) more.2,
    )
