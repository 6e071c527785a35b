-- What bytes spell, from the front on.
use Rattle.std.proofs.Common.{◌≡◌, ◌≢◌, ℕ, ◌+◌, ◌-◌, ◌<◌, ◌≤◌, eqb, eqb-true, List, [], ◌∷◌, ◌++◌, Option, None, Some, map, length, get_or, drop, refl, sym, ap, subst, ◌∙◌, append_assoc, append-nil, arith, inl, inr}
use Rattle.std.specs.Prelude.{IfSome}
use Rattle.std.specs.List.{between}
use Rattle.std.specs.Option.{option_map}
use Rattle.std.proofs.lemmas.Bool.{ne_eqb, eqb-false, cases_Bool}
use Rattle.std.proofs.lemmas.List.{take-append-drop, drop_more, drop_all, drop-drop}
use Rattle.std.proofs.lemmas.List.Edits.{between_more, between_none}
use Rattle.cal_line.specs.Tokens.{Token, character, comma, equals, token, taken, Spell, nothing, itself, behind_backslash, onto, tokens_of, byte_of, Spells, spelled_text}
use Rattle.cal_line.specs.Spans.{text_of}
use Rattle.cal_line.specs.Steps.{before}

-- no tokens, and two runs of tokens, before more
pub before-nil : (more : Option (List Token)) → before [] more ≡ more
before-nil None = refl
before-nil (Some rest) = refl

pub before-before : (front next : List Token) (more : Option (List Token)) → before front (before next more) ≡ before (front ++ next) more
before-before front next None = refl
before-before front next (Some rest) = ap Some (sym (append_assoc front next rest))

-- a byte but the backslash is the first token
pub tokens_of-itself : (b : ℕ) (bytes : List ℕ) → b ≢ 92 → tokens_of (b ∷ bytes) ≡ onto (token b) (tokens_of bytes)
tokens_of-itself b [] other = simp (ne_eqb b 92 other)
tokens_of-itself b (c ∷ bytes) other = simp (ne_eqb b 92 other)

-- what is spelled stands before what follows
pub tokens_of-front : {bytes : List ℕ} {tokens : List Token} → Spell bytes tokens → (rest : List ℕ) → tokens_of (bytes ++ rest) ≡ before tokens (tokens_of rest)
tokens_of-front nothing rest = sym (before-nil (tokens_of rest))
tokens_of-front (itself {b} {bytes} {tokens} other spell) rest =
    tokens_of-itself b (bytes ++ rest) other
    ∙ ap (onto (token b)) (tokens_of-front spell rest)
    ∙ before-before (token b ∷ []) tokens (tokens_of rest)
tokens_of-front (behind_backslash {b} {bytes} {tokens} spell) rest =
    ap (onto (taken b)) (tokens_of-front spell rest) ∙ before-before (taken b ∷ []) tokens (tokens_of rest)

pub tokens_of-spelled : {bytes : List ℕ} {tokens : List Token} → Spell bytes tokens → tokens_of bytes ≡ Some tokens
tokens_of-spelled {bytes} {tokens} spell =
    ap tokens_of (sym (append-nil bytes)) ∙ tokens_of-front spell [] ∙ ap Some (append-nil tokens)

-- and what is read is spelled
IfSome-onto : (first : Token) (more : Option (List Token)) (P Q : List Token → Type 0) → ((tokens : List Token) → P tokens → Q (first ∷ tokens)) → IfSome more P → IfSome (onto first more) Q
IfSome-onto first None P Q step holds = tt
IfSome-onto first (Some tokens) P Q step holds = step tokens holds

IfSome-tokens_of : (bytes : List ℕ) → IfSome (tokens_of bytes) (Spell bytes)
IfSome-tokens_of [] = nothing
IfSome-tokens_of (b ∷ []) =
    elim (cases_Bool (eqb b 92)) [
      | inl lone ↦ rw lone tt
      | inr other ↦ rw other (itself (eqb-false b 92 other) nothing)
    ]
IfSome-tokens_of (b ∷ c ∷ bytes) =
    elim (cases_Bool (eqb b 92)) [
      | inl backslash ↦ rw backslash (IfSome-onto (taken c) (tokens_of bytes) (Spell bytes) (Spell (b ∷ c ∷ bytes))
          (λ tokens spell. subst (λ a. Spell (a ∷ c ∷ bytes) (taken c ∷ tokens)) (sym (eqb-true b 92 backslash)) (behind_backslash spell))
          (IfSome-tokens_of bytes))
      | inr other ↦ rw other (IfSome-onto (token b) (tokens_of (c ∷ bytes)) (Spell (c ∷ bytes)) (Spell (b ∷ c ∷ bytes))
          (λ tokens spell. itself (eqb-false b 92 other) spell)
          (IfSome-tokens_of (c ∷ bytes)))
    ]

pub Spell-tokens_of : (bytes : List ℕ) (tokens : List Token) → tokens_of bytes ≡ Some tokens → Spell bytes tokens
Spell-tokens_of bytes tokens read = subst (λ found. IfSome found (Spell bytes)) read (IfSome-tokens_of bytes)

-- bytes of one spelling and then of another
pub Spell-append : {xs ys : List ℕ} {front next : List Token} → Spell xs front → Spell ys next → Spell (xs ++ ys) (front ++ next)
Spell-append nothing then = then
Spell-append (itself other spell) then = itself other (Spell-append spell then)
Spell-append (behind_backslash spell) then = behind_backslash (Spell-append spell then)

-- the part of a line between two places, and a byte or an escape more
pub Spell-start : (line : List ℕ) (start : ℕ) → Spell (between start start line) []
Spell-start line start = rw (between_none line start) nothing

pub Spell-itself : (line : List ℕ) (start place : ℕ) (tokens : List Token) → Spell (between start place line) tokens → start ≤ place → place < length line → get_or line place 0 ≢ 92 → Spell (between start (place + 1) line) (tokens ++ token (get_or line place 0) ∷ [])
Spell-itself line start place tokens spell order within other =
    rw (between_more line start place 0 order within) (Spell-append spell (itself other nothing))

pub Spell-taken : (line : List ℕ) (start place : ℕ) (tokens : List Token) → Spell (between start place line) tokens → start ≤ place → place + 1 < length line → get_or line place 0 ≡ 92 → Spell (between start (place + 2) line) (tokens ++ taken (get_or line (place + 1) 0) ∷ [])
Spell-taken line start place tokens spell order within backslash =
    let c = get_or line (place + 1) 0 in
    let two : place + 2 ≡ place + 1 + 1 = omega arith in
    let both : between start (place + 2) line ≡ between start place line ++ 92 ∷ c ∷ [] =
    ap (λ n. between start n line) two
    ∙ between_more line start (place + 1) 0 (omega arith) within
    ∙ ap (λ front. front ++ c ∷ []) (between_more line start place 0 order (omega arith) ∙ ap (λ b. between start place line ++ b ∷ []) backslash)
    ∙ append_assoc (between start place line) (92 ∷ []) (c ∷ [])
    in
    rw both (Spell-append spell (behind_backslash nothing))

-- a part of a line stands before what follows it
drop-between : (line : List ℕ) (start place : ℕ) → start ≤ place → drop start line ≡ between start place line ++ drop place line
drop-between line start place order =
    let rest : drop (place - start) (drop start line) ≡ drop place line =
    drop-drop (place - start) start line ∙ ap (λ n. drop n line) (omega arith)
    in
    sym (take-append-drop (place - start) (drop start line)) ∙ ap (λ more. between start place line ++ more) rest

pub tokens_of-rest : (line : List ℕ) (start place : ℕ) (tokens : List Token) → Spell (between start place line) tokens → start ≤ place → tokens_of (drop start line) ≡ before tokens (tokens_of (drop place line))
tokens_of-rest line start place tokens spell order =
    ap tokens_of (drop-between line start place order) ∙ tokens_of-front spell (drop place line)

-- a lone backslash leaves nothing
pub tokens_of-lone : (line : List ℕ) (start place : ℕ) (tokens : List Token) → Spell (between start place line) tokens → start ≤ place → place + 1 ≡ length line → get_or line place 0 ≡ 92 → tokens_of (drop start line) ≡ None
tokens_of-lone line start place tokens spell order last backslash =
    let rest : drop place line ≡ 92 ∷ [] =
    drop_more line place 0 (omega arith) ∙ ap (λ (b : ℕ). b ∷ drop (place + 1) line) backslash ∙ ap (λ (more : List ℕ). 92 ∷ more) (drop_all (place + 1) line (omega arith))
    in
    tokens_of-rest line start place tokens spell order ∙ ap (λ bytes. before tokens (tokens_of bytes)) rest

-- the bytes of a text's tokens are the text
pub bytes_of-characters : (text : List ℕ) → map byte_of (map character text) ≡ text
bytes_of-characters [] = refl
bytes_of-characters (b ∷ text) = ap (λ more. b ∷ more) (bytes_of-characters text)

-- the text that a spelling spells
pub spelled_text-spelled : (bytes : List ℕ) (tokens : List Token) → Spell bytes tokens → spelled_text bytes ≡ Some (map byte_of tokens)
spelled_text-spelled bytes tokens spell = rw (tokens_of-spelled spell) refl

pub text_of-piece : (bytes text : List ℕ) → Spell bytes (map character text) → text_of bytes ≡ text
text_of-piece bytes text spell = rw (tokens_of-spelled spell) (bytes_of-characters text)

-- no tokens are spelled by no bytes
pub Spell-nil : (bytes : List ℕ) (tokens : List Token) → Spell bytes tokens → tokens ≡ [] → bytes ≡ []
Spell-nil _ _ nothing none = refl
Spell-nil _ _ (itself other spell) none = absurd (cc)
Spell-nil _ _ (behind_backslash spell) none = absurd (cc)

-- what stands at an equals sign, and at a comma
pub tokens_of-equals : (line : List ℕ) (place : ℕ) → place < length line → get_or line place 0 ≡ 61 → tokens_of (drop place line) ≡ onto equals (tokens_of (drop (place + 1) line))
tokens_of-equals line place within sign =
    ap tokens_of (drop_more line place 0 within ∙ ap (λ (b : ℕ). b ∷ drop (place + 1) line) sign) ∙ tokens_of-itself 61 (drop (place + 1) line) (eqb-false 61 92 refl)

pub tokens_of-comma : (bytes : List ℕ) → tokens_of (44 ∷ bytes) ≡ onto comma (tokens_of bytes)
tokens_of-comma bytes = tokens_of-itself 44 bytes (eqb-false 44 92 refl)

pub spelled_text-lone : (written : List ℕ) (place : ℕ) (tokens : List Token) → Spell (between 0 place written) tokens → place + 1 ≡ length written → get_or written place 0 ≡ 92 → spelled_text written ≡ None
spelled_text-lone written place tokens spell last backslash =
    ap (option_map (map byte_of)) (tokens_of-lone written 0 place tokens spell (omega arith) last backslash)

-- the text that bytes spell by themselves, by the spelling and by the reading of their tokens
pub spelled_text-Spells : (bytes text : List ℕ) → Spells bytes text → spelled_text bytes ≡ Some text
spelled_text-Spells bytes text spells = spelled_text-spelled bytes spells.0 spells.1 ∙ ap Some (sym spells.2)

pub Spells-spelled_text : (bytes text : List ℕ) → spelled_text bytes ≡ Some text → Spells bytes text
Spells-spelled_text bytes text read = by_tokens (tokens_of bytes) refl read
  where
    by_tokens : (found : Option (List Token)) → tokens_of bytes ≡ found → option_map (map byte_of) found ≡ Some text → Spells bytes text
    by_tokens None is read = absurd (cc)
    by_tokens (Some tokens) is read = let same : map byte_of tokens ≡ text = cc in (tokens, Spell-tokens_of bytes tokens is, sym same)
