-- The tokens of a text, from what stands first in it.
use Rattle.std.proofs.Common.{◌≡◌, ℕ, zero, suc, ◌+◌, ◌-◌, ◌<◌, false, List, [], ◌∷◌, length, get_or, drop, Ok, Err, refl, sym, ap, ◌∙◌, arith, inl, inr}
use Rattle.std.specs.List.{prefix_len}
use Rattle.std.proofs.Math.Seq.{drop-nil}
use Rattle.std.proofs.lemmas.Bool.{cond-false, cond-true}
use Rattle.std.proofs.lemmas.List.Sums.{prefix_len_stops}
use Rattle.std.proofs.lemmas.List.{drop-drop, get_or-drop, length-drop}
use Rattle.cal_ql.specs.declared.kind.QueryKind.{QueryKind}
use Rattle.cal_ql.specs.Tokens.{Token, end, broken, token, is_blank, token_at, tokens_with, tokens_from}
use Rattle.cal_ql.proofs.Choices.{either_way}

-- the bytes of the token before are passed over
pub tokens_inside : (whole : ℕ) (bytes : List ℕ) (n : ℕ) → tokens_from whole bytes n ≡ tokens_from whole (drop n bytes) 0
unfolding tokens_from
tokens_inside whole [] n = rw (drop-nil n) refl
tokens_inside whole (byte ∷ bytes) zero = refl
tokens_inside whole (byte ∷ bytes) (suc n) = tokens_inside whole bytes n

-- so are blanks
pub tokens_blanks : (whole : ℕ) (bytes : List ℕ) → tokens_from whole (drop (prefix_len is_blank bytes) bytes) 0 ≡ tokens_from whole bytes 0
unfolding tokens_from
tokens_blanks whole [] = refl
tokens_blanks whole (byte ∷ bytes) =
    elim (either_way (is_blank byte)) [
      | inl blank ↦ (
          let len : prefix_len is_blank (byte ∷ bytes) ≡ suc (prefix_len is_blank bytes) = cond-true (is_blank byte) _ _ blank ∙ omega arith in
          let here : tokens_from whole (byte ∷ bytes) 0 ≡ tokens_from whole bytes 0 = cond-true (is_blank byte) _ _ blank in
          ap (λ (k : ℕ). tokens_from whole (drop k (byte ∷ bytes)) 0) len ∙ tokens_blanks whole bytes ∙ sym here)
      | inr other ↦ (
          let len : prefix_len is_blank (byte ∷ bytes) ≡ 0 = cond-false (is_blank byte) _ _ other in
          ap (λ (k : ℕ). tokens_from whole (drop k (byte ∷ bytes)) 0) len)
    ]

-- behind blanks stands none
pub no_blank : (bytes rest : List ℕ) → rest ≡ drop (prefix_len is_blank bytes) bytes → 0 < length rest → is_blank (get_or rest 0 0) ≡ false
no_blank bytes rest here some =
    let len = prefix_len is_blank bytes in
    let within : len < length bytes = omega (arith, ap length here, length-drop len bytes) in
    let first : get_or rest 0 0 ≡ get_or bytes (len + 0) 0 = ap (λ (xs : List ℕ). get_or xs 0 0) here ∙ get_or-drop len bytes 0 0 in
    let same : len + 0 ≡ len = omega arith in
    ap is_blank (first ∙ ap (λ (k : ℕ). get_or bytes k 0) same) ∙ prefix_len_stops is_blank bytes 0 within

-- what stands first where no blank does
pub tokens_first : (whole : ℕ) (text : List ℕ) → 0 < length text → is_blank (get_or text 0 0) ≡ false → tokens_from whole text 0 ≡ tokens_with (whole - length text) (token_at text) (λ n. tokens_from whole (drop 1 text) n)
unfolding tokens_from
tokens_first whole [] some plain = absurd (omega arith)
tokens_first whole (byte ∷ bytes) some plain = cond-false (is_blank byte) _ _ plain

pub tokens_first_token : (whole : ℕ) (text : List ℕ) (t : Token) (n : ℕ) → 0 < length text → is_blank (get_or text 0 0) ≡ false → token_at text ≡ Ok (t, n) → 0 < n → tokens_from whole text 0 ≡ token (whole - length text) t (tokens_from whole (drop n text) 0)
tokens_first_token whole text t n some plain found long =
    let behind : tokens_from whole (drop 1 text) (n - 1) ≡ tokens_from whole (drop n text) 0 = tokens_inside whole (drop 1 text) (n - 1) ∙ ap (λ (xs : List ℕ). tokens_from whole xs 0) (drop-drop (n - 1) 1 text ∙ ap (λ (k : ℕ). drop k text) (omega arith)) in
    tokens_first whole text some plain ∙ rw (found, behind) refl

pub tokens_first_broken : (whole : ℕ) (text : List ℕ) (kind : QueryKind) → 0 < length text → is_blank (get_or text 0 0) ≡ false → token_at text ≡ Err kind → tokens_from whole text 0 ≡ broken (record { place = whole - length text; kind = kind })
tokens_first_broken whole text kind some plain found = tokens_first whole text some plain ∙ rw found refl

pub tokens_end : (whole : ℕ) (text : List ℕ) → length text ≡ 0 → tokens_from whole text 0 ≡ end (whole - length text)
unfolding tokens_from
tokens_end whole [] none = ap end (omega arith)
tokens_end whole (byte ∷ bytes) none = absurd (omega arith)
