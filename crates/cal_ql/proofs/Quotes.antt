-- What a quoted text says, read from its front by characters.
use Rattle.std.proofs.Common.{◌≡◌, ◌≢◌, ℕ, ◌<◌, ◌≤◌, Bool, true, false, eqb, ltb, List, [], ◌∷◌, ◌++◌, length, refl, sym, ap, ◌∙◌, append_assoc, arith, inl, inr}
use Rattle.std.specs.List.{AllByRecursion}
use Rattle.std.proofs.lemmas.Bool.{cases_lt, ne_eqb, le-ltb, cond-false, cond_both}
use Rattle.std.proofs.lemmas.Str.{encode_ascii, length-encode, len_utf8_bounds}
use lib.Utf8.{encode}
use Rattle.cal_ql.specs.Tokens.{unquoted}

-- what is left to read, with the backslash that was read before it
abbrev pub unread : Bool → List ℕ → List ℕ
unread true bytes = 92 ∷ bytes
unread false bytes = bytes

unquoted-plain : (byte : ℕ) (rest : List ℕ) → byte ≢ 92 → unquoted (byte ∷ rest) ≡ byte ∷ unquoted rest
unquoted-plain byte [] other = cond-false (eqb byte 92) [] (byte ∷ []) (ne_eqb byte 92 other)
unquoted-plain byte (next ∷ rest) other = cond-false (eqb byte 92) (next ∷ unquoted rest) (byte ∷ unquoted (next ∷ rest)) (ne_eqb byte 92 other)

unquoted-run : (run rest : List ℕ) → AllByRecursion (λ byte. byte ≢ 92) run → unquoted (run ++ rest) ≡ run ++ unquoted rest
unquoted-run [] rest plain = refl
unquoted-run (byte ∷ run) rest plain = unquoted-plain byte (run ++ rest) plain.0 ∙ ap (λ (xs : List ℕ). byte ∷ xs) (unquoted-run run rest plain.1)

-- each byte of a character past ASCII is past ASCII
high_bytes : (c : ℕ) → 128 ≤ c → AllByRecursion (λ byte. 128 ≤ byte) (encode c)
unfolding encode
high_bytes c high =
    rw (le-ltb c 128 high)
    (cond_both (ltb c 2048) _ _ (AllByRecursion (λ byte. 128 ≤ byte)) (λ _. (omega arith, (omega arith, tt)))
    (λ _. cond_both (ltb c 65536) _ _ (AllByRecursion (λ byte. 128 ≤ byte)) (λ _. (omega arith, (omega arith, (omega arith, tt))))
    (λ _. (omega arith, (omega arith, (omega arith, (omega arith, tt)))))))

high_run : (bytes : List ℕ) → AllByRecursion (λ byte. 128 ≤ byte) bytes → AllByRecursion (λ byte. byte ≢ 92) bytes
high_run [] high = tt
high_run (byte ∷ bytes) high = (λ same. absurd (omega (arith, high.0)), high_run bytes high.1)

-- a character that is no backslash
unquoted-char : (rest : List ℕ) (c : ℕ) → c ≢ 92 → unquoted (encode c ++ rest) ≡ encode c ++ unquoted rest
unquoted-char rest c other =
    elim (cases_lt c 128) [
      | inl low ↦ unquoted-run (encode c) rest (rw (encode_ascii c low) (other, tt))
      | inr high ↦ unquoted-run (encode c) rest (high_run (encode c) (high_bytes c high))
    ]

taken_high : (bytes rest : List ℕ) → 0 < length bytes → AllByRecursion (λ byte. 128 ≤ byte) bytes → unquoted (92 ∷ (bytes ++ rest)) ≡ bytes ++ unquoted rest
taken_high [] rest some high = absurd (omega arith)
taken_high (byte ∷ bytes) rest some high = ap (λ (xs : List ℕ). byte ∷ xs) (unquoted-run bytes rest (high_run bytes high.1))

-- a character behind a backslash
unquoted-taken : (rest : List ℕ) (c : ℕ) → unquoted (unread true (encode c ++ rest)) ≡ encode c ++ unquoted rest
unquoted-taken rest c =
    elim (cases_lt c 128) [
      | inl low ↦ rw (encode_ascii c low) refl
      | inr high ↦ taken_high (encode c) rest (omega (arith, length-encode c, (len_utf8_bounds c).0)) (high_bytes c high)
    ]

-- The two steps of a reader that has the text in front and takes the character c: what is said stays.
pub taken_step : (front front' rest rest' whole : List ℕ) (c : ℕ) → rest ≡ encode c ++ rest' → front' ≡ front ++ encode c
    → front ++ unquoted (unread true rest) ≡ whole → front' ++ unquoted rest' ≡ whole
taken_step front front' rest rest' whole c taken put says =
    rw put (append_assoc front (encode c) (unquoted rest') ∙ ap (λ (xs : List ℕ). front ++ xs) (sym (unquoted-taken rest' c)) ∙ rw taken at says)

pub plain_step : (front front' rest rest' whole : List ℕ) (c : ℕ) → c ≢ 92 → rest ≡ encode c ++ rest' → front' ≡ front ++ encode c
    → front ++ unquoted rest ≡ whole → front' ++ unquoted rest' ≡ whole
plain_step front front' rest rest' whole c other taken put says =
    rw put (append_assoc front (encode c) (unquoted rest') ∙ ap (λ (xs : List ℕ). front ++ xs) (sym (unquoted-char rest' c other)) ∙ rw taken at says)
