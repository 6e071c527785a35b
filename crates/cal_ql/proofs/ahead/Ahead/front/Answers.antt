use Rattle.std.proofs.Common.{◌≡◌, ℕ, List, ◌<◌, ◌∙◌, length, drop, arith, ap, sym}
use Rattle.std.proofs.lemmas.Bool.{eqb-true, eqb-false}
use Rattle.std.specs.List.{prefix_len}
use Rattle.cal_ql.specs.Steps.{tokens_ahead}
use Rattle.cal_ql.specs.Tokens.{end, is_blank, tokens_from}
use Rattle.cal_ql.specs.Scanning.{token_of}
use Rattle.cal_ql.proofs.Scans.{blanks_boundary}
use Rattle.cal_ql.proofs.TokenSteps.{no_blank, tokens_blanks, tokens_end, tokens_first_broken, tokens_first_token}
use Rattle.cal_ql.proofs.ahead.Ahead.front.Goals as goal

-- a text behind blanks has the same tokens
behind_blanks : (whole : ℕ) (text rest : List ℕ) → text ≡ drop (prefix_len is_blank rest) rest → tokens_from whole text 0 ≡ tokens_from whole rest 0
behind_blanks whole text rest here = ap (λ (xs : List ℕ). tokens_from whole xs 0) here ∙ tokens_blanks whole rest

pub range_from-text-requires : goal.range_from-text-requires
range_from-text-requires c = λ _. rw (c.blanks.ensures, c.as_bytes.ensures.value) (blanks_boundary c.args.self.rest.now (rw c.as_bytes.ensures.value at c.as_bytes.ensures.utf8))

pub returns-then-is_empty : goal.returns-then-is_empty
unfolding tokens_ahead
returns-then-is_empty c =
    let text = c.range_from-text.result.now in
    let rest = c.args.self.rest.now in
    let here : text ≡ drop (prefix_len is_blank rest) rest = c.range_from-text.ensures.value ∙ ap (λ (k : ℕ). drop k rest) (rw c.as_bytes.ensures.value at c.blanks.ensures) in
    let none : length text ≡ 0 = eqb-true _ _ (sym c.if-is_empty.ensures) in
    ap end c.saturating_sub-place.ensures ∙ sym (tokens_end c.args.self.whole text none) ∙ behind_blanks c.args.self.whole text rest here

pub returns-in-Ok : goal.returns-in-Ok
unfolding tokens_ahead
returns-in-Ok c =
    let text = c.range_from-text.result.now in
    let rest = c.args.self.rest.now in
    let here : text ≡ drop (prefix_len is_blank rest) rest = c.range_from-text.ensures.value ∙ ap (λ (k : ℕ). drop k rest) (rw c.as_bytes.ensures.value at c.blanks.ensures) in
    let some : 0 < length text = omega (arith, eqb-false _ _ (sym c.if-is_empty.ensures)) in
    let found = c.in-Ok.ensures.lexeme in
    rw (c.saturating_sub-place.ensures, c.range_from-rest.ensures.value)
    (sym (tokens_first_token c.args.self.whole text (token_of c.in-Ok.token) c.in-Ok.len some (no_blank rest text here some) found.0 found.1) ∙ behind_blanks c.args.self.whole text rest here)

pub returns-in-Err : goal.returns-in-Err
unfolding tokens_ahead
returns-in-Err c =
    let text = c.range_from-text.result.now in
    let rest = c.args.self.rest.now in
    let here : text ≡ drop (prefix_len is_blank rest) rest = c.range_from-text.ensures.value ∙ ap (λ (k : ℕ). drop k rest) (rw c.as_bytes.ensures.value at c.blanks.ensures) in
    let some : 0 < length text = omega (arith, eqb-false _ _ (sym c.if-is_empty.ensures)) in
    rw c.saturating_sub-place.ensures
    (sym (tokens_first_broken c.args.self.whole text c.in-Err.kind some (no_blank rest text here some) c.in-Err.ensures.lexeme) ∙ behind_blanks c.args.self.whole text rest here)
