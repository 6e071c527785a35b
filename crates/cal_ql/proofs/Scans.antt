-- Scanning from left to right.
use Rattle.std.proofs.Common.{◌≡◌, ◌≢◌, ℕ, zero, suc, ◌+◌, ◌<◌, ◌≤◌, Bool, true, false, cond, eqb, List, [], ◌∷◌, length, get_or, take, drop, Option, Some, None, refl, sym, ap, subst, ◌∙◌, add-one, arith, inl, inr, drop-cons}
use Rattle.std.specs.Prelude.{option_map, nat_eq, find}
use Rattle.std.specs.Str.{IsCharBoundary, IsUtf8}
use Rattle.std.specs.List.{prefix_len, starts_with}
use Rattle.std.specs.Cmp.Lexicographic.{bytes_decides}
use Rattle.std.proofs.lemmas.Grind.{common_steps}
use Rattle.std.proofs.lemmas.Bool.{cases_lt, ne_eqb, eqb-true}
use Rattle.std.proofs.lemmas.List.{get_or-take, drop-drop, length-take}
use Rattle.std.proofs.lemmas.List.Sums.{prefix_len-le-length, prefix_len_stops, prefix_len_passes}
use Rattle.std.proofs.lemmas.Str.{IsCharBoundary-start, IsCharBoundary-end, IsCharBoundary-before_ascii, IsCharBoundary-after_ascii}
use Rattle.cal_ql.proofs.Choices.{chosen}
use Rattle.cal_ql.specs.declared.token.Sign.{Sign}
use Rattle.cal_ql.specs.declared.token.Sign.TheVariants as sign
use Rattle.cal_ql.specs.Signs.{sign_text, sign_at, every_sign}
use Rattle.cal_ql.specs.Tokens.{is_blank, is_word_byte, quoted_len}

-- ---- where a text may be cut

no_word_byte : (byte : ℕ) → is_word_byte byte ≡ false → byte < 128
no_word_byte byte fails = grind (arith, common_steps)

blank_byte : (byte : ℕ) → is_blank byte ≡ true → byte < 128
blank_byte byte blank = grind (arith, common_steps)

-- behind a word
pub word_boundary : (text : List ℕ) → IsCharBoundary text (prefix_len is_word_byte text)
word_boundary text =
    elim (cases_lt (prefix_len is_word_byte text) (length text)) [
      | inl lt ↦ IsCharBoundary-before_ascii text _ lt (no_word_byte _ (prefix_len_stops is_word_byte text 0 lt))
      | inr le ↦ (
          let whole : length text ≡ prefix_len is_word_byte text = omega (arith, prefix_len-le-length is_word_byte text) in
          subst (λ (n : ℕ). IsCharBoundary text n) whole (IsCharBoundary-end text))
    ]

blanks_boundary_at : (text : List ℕ) (n : ℕ) → n ≡ prefix_len is_blank text → IsUtf8 text → IsCharBoundary text n
blanks_boundary_at text zero here utf8 = IsCharBoundary-start text utf8
blanks_boundary_at text (suc n) here utf8 =
    let within : n < length text = omega (arith, prefix_len-le-length is_blank text) in
    let blank = prefix_len_passes is_blank text n 0 (omega arith) in
    subst (λ (k : ℕ). IsCharBoundary text k) (omega arith) (IsCharBoundary-after_ascii text n utf8 within (blank_byte _ blank))

-- behind blanks
pub blanks_boundary : (text : List ℕ) → IsUtf8 text → IsCharBoundary text (prefix_len is_blank text)
blanks_boundary text utf8 = blanks_boundary_at text _ refl utf8

-- a sign ends with an ASCII byte
sign_last : (s : Sign) → (k : ℕ) × (length (sign_text s) ≡ k + 1) × (get_or (sign_text s) k 0 < 128)
sign_last sign.Comma = (0, refl, omega arith)
sign_last sign.Open = (0, refl, omega arith)
sign_last sign.Close = (0, refl, omega arith)
sign_last sign.Star = (0, refl, omega arith)
sign_last sign.Equals = (0, refl, omega arith)
sign_last sign.Less = (0, refl, omega arith)
sign_last sign.Greater = (0, refl, omega arith)
sign_last sign.LessEqual = (1, refl, omega arith)
sign_last sign.GreaterEqual = (1, refl, omega arith)

find_passes : {X : Type 0} (p : X → Bool) (xs : List X) (x : X) → find p xs ≡ Some x → p x ≡ true
find_passes p [] x e = absurd cc
find_passes {X} p (y ∷ xs) x e =
    elim (chosen (p y) (Some y) (find p xs) (Some x) e) [
      | inl passes ↦ (let same : y ≡ x = cc in subst (λ (z : X). p z ≡ true) same passes.0)
      | inr fails ↦ find_passes p xs x fails.1
    ]

sign_front : (text : List ℕ) (s : Sign) → sign_at text ≡ Some s → take (length (sign_text s)) text ≡ sign_text s
unfolding sign_at
sign_front text s e = sym ((bytes_decides (sign_text s) (take (length (sign_text s)) text)).0 (find_passes (λ t. starts_with nat_eq text (sign_text t)) every_sign s e))

-- behind a sign
pub sign_boundary : (text : List ℕ) (s : Sign) → IsUtf8 text → sign_at text ≡ Some s → IsCharBoundary text (length (sign_text s))
sign_boundary text s utf8 e =
    let last = sign_last s in
    let front = sign_front text s e in
    let long : length (sign_text s) ≤ length text = omega (arith, length-take (length (sign_text s)) text, ap length front) in
    let low : get_or text last.0 0 < 128 = rw (← get_or-take (length (sign_text s)) text last.0 0 (omega (arith, last.1)), front) last.2 in
    subst (λ (k : ℕ). IsCharBoundary text k) (sym last.1) (IsCharBoundary-after_ascii text last.0 utf8 (omega (arith, last.1)) low)

-- ---- quoted texts

quoted_len-cons : (byte : ℕ) (bytes : List ℕ) → quoted_len (byte ∷ bytes) ≡ cond (eqb byte 34) (Some 0) (cond (eqb byte 92) (option_map (λ n. 2 + n) (quoted_len (drop 1 bytes))) (option_map (λ n. 1 + n) (quoted_len bytes)))
quoted_len-cons byte [] = grind (arith, common_steps)
quoted_len-cons byte (next ∷ bytes) = refl

quoted_len-at : (xs : List ℕ) (i : ℕ) → i < length xs → quoted_len (drop i xs) ≡ cond (eqb (get_or xs i 0) 34) (Some 0) (cond (eqb (get_or xs i 0) 92) (option_map (λ n. 2 + n) (quoted_len (drop (i + 2) xs))) (option_map (λ n. 1 + n) (quoted_len (drop (i + 1) xs))))
quoted_len-at xs i lt =
    let next : drop 1 (drop (i + 1) xs) ≡ drop (i + 2) xs = drop-drop 1 (i + 1) xs ∙ ap (λ (k : ℕ). drop k xs) (omega arith) in
    let here : drop i xs ≡ get_or xs i 0 ∷ drop (i + 1) xs = rw add-one (drop-cons xs i 0 lt) in
    rw here (quoted_len-cons (get_or xs i 0) (drop (i + 1) xs) ∙ rw next refl)

-- what is counted from a place on
abbrev pub counted : ℕ → Option ℕ → Option ℕ
counted i found = option_map (λ n. i + n) found

pub counted-zero : (found : Option ℕ) → counted 0 found ≡ found
counted-zero None = refl
counted-zero (Some n) = ap (λ (k : ℕ). Some k) (omega arith)

counted-add : (i k : ℕ) (found : Option ℕ) → counted i (option_map (λ n. k + n) found) ≡ counted (i + k) found
counted-add i k None = refl
counted-add i k (Some n) = ap (λ (m : ℕ). Some m) (omega arith)

pub quoted_stop : (xs : List ℕ) (i : ℕ) (total : Option ℕ) → i < length xs → get_or xs i 0 ≡ 34 → counted i (quoted_len (drop i xs)) ≡ total → Some i ≡ total
quoted_stop xs i total lt quote so_far =
    let here : quoted_len (drop i xs) ≡ Some 0 = quoted_len-at xs i lt ∙ rw quote refl in
    ap (λ (m : ℕ). Some m) (omega arith) ∙ rw here at so_far

pub quoted_taken : (xs : List ℕ) (i : ℕ) (total : Option ℕ) → i < length xs → get_or xs i 0 ≡ 92 → counted i (quoted_len (drop i xs)) ≡ total → counted (i + 2) (quoted_len (drop (i + 2) xs)) ≡ total
quoted_taken xs i total lt backslash so_far =
    let here : quoted_len (drop i xs) ≡ option_map (λ n. 2 + n) (quoted_len (drop (i + 2) xs)) = quoted_len-at xs i lt ∙ rw backslash refl in
    sym (counted-add i 2 (quoted_len (drop (i + 2) xs))) ∙ rw here at so_far

pub quoted_plain : (xs : List ℕ) (i : ℕ) (total : Option ℕ) → i < length xs → get_or xs i 0 ≢ 34 → get_or xs i 0 ≢ 92 → counted i (quoted_len (drop i xs)) ≡ total → counted (i + 1) (quoted_len (drop (i + 1) xs)) ≡ total
quoted_plain xs i total lt quote backslash so_far =
    let here : quoted_len (drop i xs) ≡ option_map (λ n. 1 + n) (quoted_len (drop (i + 1) xs)) = quoted_len-at xs i lt ∙ rw (ne_eqb _ _ quote, ne_eqb _ _ backslash) refl in
    sym (counted-add i 1 (quoted_len (drop (i + 1) xs))) ∙ rw here at so_far

-- the quote that closes a quoted text
abbrev pub IsClosing : List ℕ → ℕ → Type 0
IsClosing xs n = (n < length xs) × (get_or xs n 0 ≡ 34)

some_shifted : (k m : ℕ) (found : Option ℕ) → option_map (λ n. k + n) found ≡ Some m → (n : ℕ) × (found ≡ Some n) × (m ≡ k + n)
some_shifted k m None e = absurd cc
some_shifted k m (Some n) e = (n, refl, cc)

closing_here : (byte n : ℕ) (bytes : List ℕ) → eqb byte 34 ≡ true → Some 0 ≡ Some n → IsClosing (byte ∷ bytes) n
closing_here byte n bytes quote e =
    let here : 0 ≡ n = cc in
    subst (λ (k : ℕ). IsClosing (byte ∷ bytes) k) here (omega arith, eqb-true byte 34 quote)

closing_behind : (x n m : ℕ) (xs : List ℕ) → IsClosing xs n → m ≡ 1 + n → IsClosing (x ∷ xs) m
closing_behind x n m xs closing here =
    let next : suc n ≡ m = omega arith in
    subst (λ (k : ℕ). IsClosing (x ∷ xs) k) next (omega (arith, closing.0), closing.1)

pub quote_closes : (xs : List ℕ) (n : ℕ) → quoted_len xs ≡ Some n → IsClosing xs n
quote_closes [] n e = absurd cc
quote_closes (byte ∷ []) n e =
    elim (chosen (eqb byte 34) (Some 0) None (Some n) e) [
      | inl quote ↦ closing_here byte n [] quote.0 quote.1
      | inr other ↦ absurd (let none : None ≡ Some n = other.1 in cc)
    ]
quote_closes (byte ∷ next ∷ bytes) n e =
    elim (chosen (eqb byte 34) (Some 0) _ (Some n) e) [
      | inl quote ↦ closing_here byte n (next ∷ bytes) quote.0 quote.1
      | inr other ↦ elim (chosen (eqb byte 92) (option_map (λ k. 2 + k) (quoted_len bytes)) (option_map (λ k. 1 + k) (quoted_len (next ∷ bytes))) (Some n) other.1) [
        | inl taken ↦ (
            let behind = some_shifted 2 n (quoted_len bytes) taken.1 in
            closing_behind byte (1 + behind.0) n (next ∷ bytes) (closing_behind next behind.0 (1 + behind.0) bytes (quote_closes bytes behind.0 behind.1) refl) (omega (arith, behind.2)))
        | inr plain ↦ (
            let behind = some_shifted 1 n (quoted_len (next ∷ bytes)) plain.1 in
            closing_behind byte behind.0 n (next ∷ bytes) (quote_closes (next ∷ bytes) behind.0 behind.1) behind.2)
      ]
    ]
