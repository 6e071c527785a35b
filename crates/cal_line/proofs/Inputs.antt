-- The lines of an input, from its front on.
use Rattle.std.proofs.Common.{◌≡◌, ◌≢◌, ℕ, ◌<◌, eqb, List, [], ◌∷◌, ◌++◌, length, refl, ap, ◌∙◌, arith}
use Rattle.std.specs.List.{onto_first}
use Rattle.std.proofs.lemmas.Bool.{ne_eqb, cond-false}
use Rattle.std.proofs.lemmas.List.Elements.{All-head, All-tail}
use Rattle.cal_line.specs.Lines.{lines_of, HasNoNewline}

lines_of-other : (byte : ℕ) (bytes : List ℕ) → byte ≢ 10 → lines_of (byte ∷ bytes) ≡ onto_first byte (lines_of bytes)
lines_of-other byte bytes other = cond-false (eqb byte 10) ([] ∷ lines_of bytes) (onto_first byte (lines_of bytes)) (ne_eqb byte 10 other)

-- a newline ends the first line
pub lines_of-newline : (line rest : List ℕ) → HasNoNewline line → lines_of (line ++ 10 ∷ rest) ≡ line ∷ lines_of rest
lines_of-newline [] rest none = refl
lines_of-newline (byte ∷ line) rest none =
    lines_of-other byte (line ++ 10 ∷ rest) (All-head (λ b. b ≢ 10) byte line none)
    ∙ ap (onto_first byte) (lines_of-newline line rest (All-tail (λ b. b ≢ 10) byte line none))

-- bytes without a newline are one line
pub lines_of-last : (bytes : List ℕ) → 0 < length bytes → HasNoNewline bytes → lines_of bytes ≡ bytes ∷ []
lines_of-last [] some none = absurd (omega arith)
lines_of-last (byte ∷ []) some none = lines_of-other byte [] (All-head (λ b. b ≢ 10) byte [] none)
lines_of-last (byte ∷ next ∷ line) some none =
    lines_of-other byte (next ∷ line) (All-head (λ b. b ≢ 10) byte (next ∷ line) none)
    ∙ ap (onto_first byte) (lines_of-last (next ∷ line) (omega arith) (All-tail (λ b. b ≢ 10) byte (next ∷ line) none))
