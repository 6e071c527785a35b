-- No newline stands in what is written of fields.
use Rattle.std.proofs.Common.{◌≢◌, ◌≡◌, ℕ, Bool, true, false, ◌||◌, eqb, List, [], ◌∷◌, refl, arith}
use Rattle.std.specs.Prelude.{if◌then◌else◌}
use Rattle.std.proofs.lemmas.Bool.{eqb-false}
use Rattle.std.proofs.lemmas.Bool.Decides.{nat_tests}
use Rattle.std.proofs.lemmas.List.Elements.{All-nil, All-cons, All-append}
use Rattle.cal_line.specs.Escapes.{escaped, escaped_byte}
use Rattle.cal_line.specs.Lines.{HasNoNewline}
use Rattle.cal_line.specs.WrittenFields.{written_pieces, written_fields}
use Rattle.cal_line.specs.declared.field.Field.{Field}

one_byte : (b : ℕ) → b ≢ 10 → HasNoNewline (b ∷ [])
one_byte b other = All-cons (λ c. c ≢ 10) b [] other (All-nil (λ c. c ≢ 10))

no_newline-byte : (b : ℕ) (n s : Bool) → eqb b 10 ≡ n → HasNoNewline (if n then 92 ∷ 110 ∷ [] else (if s then 92 ∷ b ∷ [] else b ∷ []))
no_newline-byte b true s is = All-cons (λ c. c ≢ 10) 92 (110 ∷ []) (λ e. cc) (one_byte 110 (λ e. cc))
no_newline-byte b false true is =
    let other : b ≢ 10 = grind (arith, nat_tests) in
    All-cons (λ c. c ≢ 10) 92 (b ∷ []) (λ e. cc) (one_byte b other)
no_newline-byte b false false is =
    let other : b ≢ 10 = grind (arith, nat_tests) in
    one_byte b other

no_newline-escaped : (text : List ℕ) → HasNoNewline (escaped text)
no_newline-escaped [] = All-nil (λ c. c ≢ 10)
no_newline-escaped (b ∷ text) =
    All-append (λ c. c ≢ 10) (escaped_byte b) (escaped text) (no_newline-byte b (eqb b 10) (eqb b 92 || eqb b 44 || eqb b 61) refl) (no_newline-escaped text)

no_newline-pieces : (piece : List ℕ) (pieces : List (List ℕ)) → HasNoNewline (written_pieces piece pieces)
no_newline-pieces piece [] = no_newline-escaped piece
no_newline-pieces piece (next ∷ pieces) =
    All-append (λ b. b ≢ 10) (escaped piece) (61 ∷ written_pieces next pieces) (no_newline-escaped piece)
    (All-cons (λ b. b ≢ 10) 61 (written_pieces next pieces) (eqb-false 61 10 refl) (no_newline-pieces next pieces))

pub no_newline-fields : (field : Field) (fields : List Field) → HasNoNewline (written_fields field fields)
no_newline-fields field [] = no_newline-pieces field.key field.values
no_newline-fields field (next ∷ fields) =
    All-append (λ b. b ≢ 10) (written_pieces field.key field.values) (44 ∷ written_fields next fields) (no_newline-pieces field.key field.values)
    (All-cons (λ b. b ≢ 10) 44 (written_fields next fields) (eqb-false 44 10 refl) (no_newline-fields next fields))
