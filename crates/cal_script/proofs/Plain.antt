-- Spellings without a backslash.
use Rattle.std.proofs.Common.{◌≡◌, ℕ, ◌<◌, get_or, Bool, true, false, cond, eqb, Option, Some, None, List, [], ◌∷◌, map, length, refl, sym, ap, ◌∙◌, arith}
use Rattle.std.specs.List.{All}
use Rattle.std.specs.Option.{option_map}
use Rattle.std.proofs.lemmas.Bool.{eqb-true, false_from_ne_true, ne_eqb}
use Rattle.std.proofs.lemmas.List.{get_or_default}
use Rattle.std.proofs.lemmas.List.Elements.{All-head, All-tail}
use Rattle.memchr.specs.Find.{Nowhere, Passes, is_byte}
use Rattle.cal_line.specs.Tokens.{Token, character, comma, equals, token, onto, byte_of, tokens_of, spelled_text}

-- the byte of a token that a byte is by itself
byte_of-token : (b : ℕ) → byte_of (token b) ≡ b
byte_of-token b = by_cases (eqb b 44) (eqb b 61) refl refl
  where
    by_cases : (p q : Bool) → eqb b 44 ≡ p → eqb b 61 ≡ q → byte_of (cond p comma (cond q equals (character b))) ≡ b
    by_cases true q is_comma is = sym (eqb-true b 44 is_comma)
    by_cases false true is is_equals = sym (eqb-true b 61 is_equals)
    by_cases false false is other = refl

onto_text : (first : Token) (tokens : Option (List Token)) → option_map (map byte_of) (onto first tokens) ≡ option_map (λ rest. byte_of first ∷ rest) (option_map (map byte_of) tokens)
onto_text first None = refl
onto_text first (Some tokens) = refl

plain : (bytes : List ℕ) → All (λ b. eqb b 92 ≡ false) bytes → spelled_text bytes ≡ Some bytes
plain [] all = refl
plain (b ∷ []) all =
    let other : eqb b 92 ≡ false = All-head (λ x. eqb x 92 ≡ false) b [] all in
    rw other (ap (λ (x : ℕ). Some (x ∷ [])) (byte_of-token b))
plain (b ∷ c ∷ bytes) all =
    let other : eqb b 92 ≡ false = All-head (λ x. eqb x 92 ≡ false) b (c ∷ bytes) all in
    let rest : spelled_text (c ∷ bytes) ≡ Some (c ∷ bytes) = plain (c ∷ bytes) (All-tail (λ x. eqb x 92 ≡ false) b (c ∷ bytes) all) in
    rw other (onto_text (token b) (tokens_of (c ∷ bytes)) ∙ ap (option_map (λ (text : List ℕ). byte_of (token b) ∷ text)) rest ∙ ap (λ (x : ℕ). Some (x ∷ c ∷ bytes)) (byte_of-token b))

-- what has no backslash spells itself, by a look at each byte and by a search
pub spelled_none : (bytes text : List ℕ) → bytes ≡ text → ((k : ℕ) → k < length bytes → get_or bytes k 0 ≡ 92 → ⊥) → spelled_text text ≡ Some text
spelled_none bytes text are none =
    rw (← are) (plain bytes (λ k d below. ne_eqb _ _ (rw (get_or_default bytes k d 0 below) (none k below))))

pub spelled_plain : (bytes text : List ℕ) → bytes ≡ text → Nowhere (Passes (is_byte 92) bytes) 0 (length bytes) → spelled_text text ≡ Some text
spelled_plain bytes text are none =
    rw (← are) (plain bytes (λ k d below. false_from_ne_true _ (λ is. none k (omega arith) below (rw (get_or_default bytes k d 0 below) at is))))
