-- What a scan of a piece has seen.
use Rattle.std.proofs.Common.{◌≡◌, ◌≢◌, ℕ, ◌+◌, ◌<◌, ◌≤◌, Bool, true, false, cond, eqb, ◌||◌, inl, inr, List, [], ◌∷◌, ◌++◌, map, length, get_or, drop, sym, ap, subst, ◌∙◌, arith}
use Rattle.std.specs.List.{between}
use Rattle.std.specs.Str.{IsCharBoundary}
use Rattle.std.proofs.lemmas.Bool.{cases_lt}
use Rattle.std.proofs.lemmas.Bool.Decides.{nat_tests}
use Rattle.std.proofs.lemmas.Str.{IsCharBoundary-before_ascii, IsCharBoundary-end}
use Rattle.std.proofs.lemmas.List.{map-append}
use Rattle.std.proofs.lemmas.List.Edits.{between_more, between_none}
use Rattle.cal_line.specs.Tokens.{Token, character, token, taken, Spell, IsPiece, tokens_of}
use Rattle.cal_line.specs.Spans.{text_at, IsSpan}
use Rattle.cal_line.specs.Steps.{before, EndsAtMark}
use Rattle.cal_line.specs.declared.spans.Span.{Span}
use Rattle.cal_line.proofs.TokenSteps.{Spell-start, Spell-itself, Spell-taken, tokens_of-rest, text_of-piece}

-- From one place up to another the line spells a text, which is the line's where no escape was seen.
pub record Scanned (line : List ℕ) (start place : ℕ) (has_escape : Bool) : Type 0 where
  pub text : List ℕ
  pub piece : IsPiece (between start place line) text
  pub plain : has_escape ≡ false → text ≡ between start place line
  pub order : start ≤ place
  pub within : place ≤ length line

pub Scanned-start : (line : List ℕ) (start : ℕ) → start ≤ length line → Scanned line start start false
Scanned-start line start within = record {
  text = [];
  piece = Spell-start line start;
  plain = λ _. sym (between_none line start);
  order = omega arith;
  within = within;
}

-- a character more
pub Scanned-itself : (line : List ℕ) (start place : ℕ) (has_escape : Bool) → Scanned line start place has_escape → place < length line → get_or line place 0 ≢ 92 → (eqb (get_or line place 0) 44 || eqb (get_or line place 0) 61) ≡ false → Scanned line start (place + 1) has_escape
Scanned-itself line start place has_escape seen within other no_mark =
    let b = get_or line place 0 in
    let no_comma : eqb b 44 ≡ false = grind (arith, nat_tests) in
    let no_equals : eqb b 61 ≡ false = grind (arith, nat_tests) in
    let is : token b ≡ character b = simp (no_comma, no_equals) in
    let tokens : map character seen.text ++ token b ∷ [] ≡ map character (seen.text ++ b ∷ []) =
    ap (λ (c : Token). map character seen.text ++ c ∷ []) is ∙ sym (map-append character seen.text (b ∷ []))
    in
    record {
      text = seen.text ++ b ∷ [];
      piece = subst (Spell (between start (place + 1) line)) tokens (Spell-itself line start place (map character seen.text) seen.piece seen.order within other);
      plain = λ unescaped. ap (λ (front : List ℕ). front ++ b ∷ []) (seen.plain unescaped) ∙ sym (between_more line start place 0 seen.order within);
      order = omega arith;
      within = omega arith;
    }

-- an escape more
pub Scanned-taken : (line : List ℕ) (start place : ℕ) (has_escape : Bool) → Scanned line start place has_escape → place + 1 < length line → get_or line place 0 ≡ 92 → Scanned line start (place + 2) true
Scanned-taken line start place has_escape seen within backslash =
    let b = get_or line (place + 1) 0 in
    let tokens : map character seen.text ++ taken b ∷ [] ≡ map character (seen.text ++ cond (eqb b 110) 10 b ∷ []) =
    sym (map-append character seen.text (cond (eqb b 110) 10 b ∷ []))
    in
    record {
      text = seen.text ++ cond (eqb b 110) 10 b ∷ [];
      piece = subst (Spell (between start (place + 2) line)) tokens (Spell-taken line start place (map character seen.text) seen.piece seen.order within backslash);
      plain = λ unescaped. absurd (cc);
      order = omega arith;
      within = omega arith;
    }

-- what was seen is a span of the line, and stands before what follows
pub IsSpan-scanned : (line : List ℕ) (span : Span) → Scanned line span.start span.end span.has_escape → IsCharBoundary line span.start → IsCharBoundary line span.end → IsSpan line span
IsSpan-scanned line span seen start end =
    let is : text_at line span ≡ seen.text = text_of-piece (between span.start span.end line) seen.text seen.piece in
    record {
      order = seen.order;
      within = seen.within;
      start = start;
      end = end;
      written = record {
        piece = subst (IsPiece (between span.start span.end line)) (sym is) seen.piece;
        plain = λ unescaped. is ∙ seen.plain unescaped;
      };
    }

pub tokens_of-scanned : (line : List ℕ) (span : Span) → Scanned line span.start span.end span.has_escape → tokens_of (drop span.start line) ≡ before (map character (text_at line span)) (tokens_of (drop span.end line))
tokens_of-scanned line span seen =
    tokens_of-rest line span.start span.end (map character seen.text) seen.piece seen.order
    ∙ ap (λ (text : List ℕ). before (map character text) (tokens_of (drop span.end line))) (sym (text_of-piece (between span.start span.end line) seen.text seen.piece))

-- a line may be cut where a mark stands
pub IsCharBoundary-at_mark : (line : List ℕ) (place : ℕ) → place ≤ length line → EndsAtMark line place → IsCharBoundary line place
IsCharBoundary-at_mark line place within stop =
    elim (cases_lt place (length line)) [
      | inl before_end ↦ (
          let mark : (eqb (get_or line place 0) 44 || eqb (get_or line place 0) 61) ≡ true = stop before_end in
          let low : get_or line place 0 < 128 = grind (arith, nat_tests) in
          IsCharBoundary-before_ascii line place before_end low)
      | inr past ↦ let last : length line ≡ place = omega arith in subst (IsCharBoundary line) last (IsCharBoundary-end line)
    ]
