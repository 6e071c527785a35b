use Rattle.std.proofs.Common.{◌≡◌, ℕ, List, [], ◌∷◌, ◌+◌, ◌-◌, ◌<◌, ◌∙◌, length, get_or, drop, take, arith, ap, sym, Option, Some, rules, subst, refl}
use Rattle.std.specs.List.{slice_get}
use Rattle.std.specs.Str.{IsCharBoundary}
use Rattle.std.proofs.lemmas.List.{get_or-drop, length-drop, take_all}
use Rattle.std.proofs.lemmas.Str.{IsCharBoundary-before_ascii, IsCharBoundary-after_ascii}
use Rattle.cal_ql.specs.Tokens.{quoted_len}
use Rattle.cal_ql.proofs.Scans.{quote_closes}
use Rattle.cal_ql.proofs.scan.quoted_at.Goals as goal

-- what stands behind the first quote
found_behind : (text : List ℕ) (len : ℕ) (found : Option ℕ) → found ≡ quoted_len (take (length text - 1) (drop 1 text)) → found ≡ Some len → quoted_len (drop 1 text) ≡ Some len
found_behind text len found computed is_some =
    let whole : take (length text - 1) (drop 1 text) ≡ drop 1 text = take_all (length text - 1) (drop 1 text) (omega (arith, length-drop 1 text)) in
    ap quoted_len (sym whole) ∙ sym computed ∙ is_some

-- the quote that closes the text
record Closes (text : List ℕ) (len : ℕ) : Type 0 where
  within : len + 1 < length text
  quote : get_or text (len + 1) 0 ≡ 34

closes : (text : List ℕ) (len : ℕ) → quoted_len (drop 1 text) ≡ Some len → Closes text len
closes text len found =
    let closing = quote_closes (drop 1 text) len found in
    record {
      within = omega (arith, closing.0, length-drop 1 text);
      quote = ap (λ (k : ℕ). get_or text k 0) (omega arith) ∙ sym (get_or-drop 1 text len 0) ∙ closing.1;
    }

pub overflow_add-len : goal.overflow_add-len
overflow_add-len c = let closing = closes c.args.text.now c.in-Some.len (found_behind c.args.text.now c.in-Some.len c.quoted_len.result (rw c.as_bytes.ensures.value at c.quoted_len.ensures) c.in-Some.is) in search rules

first_is : (text : List ℕ) → slice_get text 0 ≡ Some 34 → (0 < length text) × (get_or text 0 0 ≡ 34)
first_is [] e = absurd cc
first_is (byte ∷ bytes) e = (omega arith, cc)

pub range-requires-clause-start_boundary : goal.range-requires-clause-start_boundary
range-requires-clause-start_boundary c =
    let first = first_is c.args.text.now c.requires in
    λ _. IsCharBoundary-after_ascii c.args.text.now 0 c.utf8.text first.0 (omega (arith, first.1))

pub range-requires-clause-end_boundary : goal.range-requires-clause-end_boundary
range-requires-clause-end_boundary c =
    let closing = closes c.args.text.now c.in-Some.len (found_behind c.args.text.now c.in-Some.len c.quoted_len.result (rw c.as_bytes.ensures.value at c.quoted_len.ensures) c.in-Some.is) in
    IsCharBoundary-before_ascii c.args.text.now (c.in-Some.len + 1) closing.within (omega (arith, closing.quote))

pub returns-clause-lexeme : goal.returns-clause-lexeme
returns-clause-lexeme c =
    let text = c.args.text.now in
    let len = c.in-Some.len in
    let raw : c.range.result.now ≡ take len (drop 1 text) = c.range.ensures.value ∙ ap (λ (k : ℕ). take k (drop 1 text)) (omega arith) in
    (rw (found_behind c.args.text.now c.in-Some.len c.quoted_len.result (rw c.as_bytes.ensures.value at c.quoted_len.ensures) c.in-Some.is, raw) refl, omega arith)

pub returns-clause-boundary : goal.returns-clause-boundary
returns-clause-boundary c =
    let closing = closes c.args.text.now c.in-Some.len (found_behind c.args.text.now c.in-Some.len c.quoted_len.result (rw c.as_bytes.ensures.value at c.quoted_len.ensures) c.in-Some.is) in
    subst (λ (k : ℕ). IsCharBoundary c.args.text.now k) {x = c.in-Some.len + 1 + 1} (omega arith) (IsCharBoundary-after_ascii c.args.text.now (c.in-Some.len + 1) c.utf8.text closing.within (omega (arith, closing.quote)))
