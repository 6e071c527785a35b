-- What of a spelling is appended to a text.
use Rattle.std.proofs.Common.{◌≡◌, ◌≢◌, ℕ, ◌+◌, ◌<◌, ◌≤◌, Bool, true, false, cond, eqb, List, [], ◌∷◌, ◌++◌, Some, map, length, get_or, drop, refl, sym, ap, subst, ◌∙◌, append-nil, arith}
use Rattle.std.specs.List.{between}
use Rattle.std.specs.Str.{IsUtf8, IsCharBoundary}
use Rattle.std.proofs.lemmas.Bool.{ne_eqb, eqb-true}
use Rattle.std.proofs.lemmas.List.{map-append}
use Rattle.std.proofs.lemmas.Slice.{between_to_end}
use Rattle.std.proofs.lemmas.Str.{IsCharBoundary-after_ascii}
use Rattle.cal_line.specs.Tokens.{Token, character, comma, equals, token, taken, Spell, byte_of, spelled_text}
use Rattle.cal_line.specs.Spans.{text_of}
use Rattle.cal_line.proofs.TokenSteps.{Spell-start, Spell-itself, Spell-taken, spelled_text-spelled}
use Rattle.cal_line.proofs.Runs.{Runs, Runs-start, Runs-more, Runs-put, Runs-end}

-- Up to this place the bytes spell tokens, and the bytes of these are appended.
pub record Unescaped (written old out : List ℕ) (run place : ℕ) : Type 0 where
  pub tokens : List Token
  pub spell : Spell (between 0 place written) tokens
  pub runs : Runs written old out run place (map byte_of tokens)

-- the byte of a token that a byte is by itself
byte_of-token : (b : ℕ) → byte_of (token b) ≡ b
byte_of-token b = by_cases (eqb b 44) (eqb b 61) refl refl
  where
    by_cases : (p q : Bool) → eqb b 44 ≡ p → eqb b 61 ≡ q → byte_of (cond p comma (cond q equals (character b))) ≡ b
    by_cases true q is_comma is = sym (eqb-true b 44 is_comma)
    by_cases false true is is_equals = sym (eqb-true b 61 is_equals)
    by_cases false false is other = refl

bytes_of-more : (tokens : List Token) (more : Token) → map byte_of tokens ++ byte_of more ∷ [] ≡ map byte_of (tokens ++ more ∷ [])
bytes_of-more tokens more = sym (map-append byte_of tokens (more ∷ []))

pub Unescaped-start : (written old : List ℕ) → IsUtf8 written → Unescaped written old old 0 0
Unescaped-start written old text = record { tokens = []; spell = Spell-start written 0; runs = Runs-start written old text }

-- a byte more goes into the run
pub Unescaped-itself : (written old out : List ℕ) (run place : ℕ) → Unescaped written old out run place → place < length written → get_or written place 0 ≢ 92 → Unescaped written old out run (place + 1)
Unescaped-itself written old out run place seen within other =
    let b = get_or written place 0 in
    record {
      tokens = seen.tokens ++ token b ∷ [];
      spell = Spell-itself written 0 place seen.tokens seen.spell (omega arith) within other;
      runs = rw (← bytes_of-more seen.tokens (token b), byte_of-token b) (Runs-more written old out run place (map byte_of seen.tokens) seen.runs within);
    }

-- a backslash takes the next byte, for which this is appended
Unescaped-taken : (written old out next : List ℕ) (run place next_run : ℕ) (seen : Unescaped written old out run place) → place + 1 < length written → get_or written place 0 ≡ 92
    → Runs written old next next_run (place + 2) (map byte_of seen.tokens ++ byte_of (taken (get_or written (place + 1) 0)) ∷ []) → Unescaped written old next next_run (place + 2)
Unescaped-taken written old out next run place next_run seen within backslash runs =
    let c = taken (get_or written (place + 1) 0) in
    record {
      tokens = seen.tokens ++ c ∷ [];
      spell = Spell-taken written 0 place seen.tokens seen.spell (omega arith) within backslash;
      runs = rw (← bytes_of-more seen.tokens c) runs;
    }

-- an `n` is a newline
pub Unescaped-newline : (written old out next : List ℕ) (run place : ℕ) → Unescaped written old out run place → IsUtf8 written → place + 1 < length written → get_or written place 0 ≡ 92 → get_or written (place + 1) 0 ≡ 110
    → next ≡ (out ++ between run place written) ++ 10 ∷ [] → Unescaped written old next (place + 2) (place + 2)
Unescaped-newline written old out next run place seen text within backslash letter is =
    let two : place + 1 + 1 ≡ place + 2 = omega arith in
    let boundary : IsCharBoundary written (place + 2) = subst (IsCharBoundary written) two (IsCharBoundary-after_ascii written (place + 1) text within (omega arith)) in
    Unescaped-taken written old out next run place (place + 2) seen within backslash
    (rw letter (Runs-put written old out next run place (place + 2) (map byte_of seen.tokens) (10 ∷ []) seen.runs is (omega arith) boundary))

-- any other byte begins the next run
pub Unescaped-byte : (written old out next : List ℕ) (run place : ℕ) → Unescaped written old out run place → IsUtf8 written → place + 1 < length written → get_or written place 0 ≡ 92 → get_or written (place + 1) 0 ≢ 110
    → next ≡ out ++ between run place written → Unescaped written old next (place + 1) (place + 2)
Unescaped-byte written old out next run place seen text within backslash other is =
    let b = get_or written (place + 1) 0 in
    let done = map byte_of seen.tokens in
    let two : place + 1 + 1 ≡ place + 2 = omega arith in
    let same : b ≡ byte_of (taken b) = ap (λ is_n. cond is_n 10 b) (sym (ne_eqb b 110 other)) in
    let boundary : IsCharBoundary written (place + 1) = IsCharBoundary-after_ascii written place text (omega arith) (omega (arith, backslash)) in
    let put : Runs written old next (place + 1) (place + 1) (done ++ []) =
    Runs-put written old out next run place (place + 1) done [] seen.runs (is ∙ sym (append-nil (out ++ between run place written))) (omega arith) boundary
    in
    let begun : Runs written old next (place + 1) (place + 1) done = rw append-nil at put in
    Unescaped-taken written old out next run place (place + 1) seen within backslash
    (subst (λ (c : ℕ). Runs written old next (place + 1) (place + 2) (done ++ c ∷ [])) same
    (subst (λ n. Runs written old next (place + 1) n (done ++ b ∷ [])) two (Runs-more written old next (place + 1) (place + 1) done begun within)))

-- at the end all is spelled and appended
pub text_of-unescaped : (written old out : List ℕ) (run place : ℕ) (seen : Unescaped written old out run place) → length written ≤ place → (spelled_text written ≡ Some (text_of written)) × (text_of written ≡ map byte_of seen.tokens)
text_of-unescaped written old out run place seen past =
    let spell = subst (λ bytes. Spell bytes seen.tokens) (between_to_end written 0 place past) seen.spell in
    let read = spelled_text-spelled written seen.tokens spell in
    (rw read refl, rw read refl)

pub appended-unescaped : (written old out new : List ℕ) (run place : ℕ) → Unescaped written old out run place → length written ≤ place → new ≡ out ++ drop run written → new ≡ old ++ text_of written
appended-unescaped written old out new run place seen past is =
    rw ((text_of-unescaped written old out run place seen past).1) (Runs-end written old out new run place (map byte_of seen.tokens) seen.runs past is)
