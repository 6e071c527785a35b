-- A text on a line while it is made.
use Rattle.std.proofs.Common.{◌≡◌, ◌≢◌, ℕ, ◌+◌, ◌<◌, ◌==◌, List, [], ◌∷◌, ◌++◌, length, get_or, take, if◌then◌else◌, sym, ap, ap₂, ◌∙◌, append_assoc, append-nil, ne_eqb, arith}
use Rattle.std.specs.List.{between}
use Rattle.std.specs.Str.{IsUtf8}
use Rattle.std.proofs.lemmas.Bool.{cond-false}
use Rattle.std.proofs.lemmas.List.{take_more}
use Rattle.std.proofs.lemmas.Str.{IsCharBoundary-after_ascii}
use Rattle.cal_line.proofs.Runs.{Runs, Runs-more, Runs-put}
use Rattle.cal_tabfmt.specs.Grid.{on_line}

-- how a byte is shown
abbrev pub shown_byte : ℕ → List ℕ
shown_byte b = if b == 10 then 92 ∷ 110 ∷ [] else b ∷ []

-- one byte more is shown
on_line-push : (text : List ℕ) (b : ℕ) → on_line (text ++ b ∷ []) ≡ on_line text ++ shown_byte b
on_line-push [] b = append-nil (shown_byte b)
on_line-push (c ∷ text) b = ap (λ (rest : List ℕ). shown_byte c ++ rest) (on_line-push text b) ∙ sym (append_assoc (shown_byte c) (on_line text) (shown_byte b))

on_line-more : (text : List ℕ) (place : ℕ) → place < length text → on_line (take (place + 1) text) ≡ on_line (take place text) ++ shown_byte (get_or text place 0)
on_line-more text place within = ap on_line (take_more text place 0 within) ∙ on_line-push (take place text) (get_or text place 0)

-- one byte more that is shown as it is
pub on_line-plain : (text : List ℕ) (place : ℕ) → place < length text → on_line (take place text) ≡ take place text → on_line (get_or text place 0 ∷ []) ≡ get_or text place 0 ∷ []
    → on_line (take (place + 1) text) ≡ take (place + 1) text
on_line-plain text place within so_far as_is =
    on_line-more text place within
    ∙ ap₂ (λ (front last : List ℕ). front ++ last) so_far (sym (append-nil (shown_byte (get_or text place 0))) ∙ as_is)
    ∙ sym (take_more text place 0 within)

-- as it is, in the run
pub Runs-plain : (text old out : List ℕ) (run place : ℕ) → Runs text old out run place (on_line (take place text)) → place < length text → get_or text place 0 ≢ 10
    → Runs text old out run (place + 1) (on_line (take (place + 1) text))
Runs-plain text old out run place so_far within other =
    let b = get_or text place 0 in
    rw (on_line-more text place within, cond-false (b == 10) (92 ∷ 110 ∷ []) (b ∷ []) (ne_eqb b 10 other))
    (Runs-more text old out run place (on_line (take place text)) so_far within)

-- or as a backslash and `n`, behind the run
pub Runs-newline : (text old out next : List ℕ) (run place : ℕ) → Runs text old out run place (on_line (take place text)) → IsUtf8 text → place < length text → get_or text place 0 ≡ 10
    → next ≡ (out ++ between run place text) ++ (92 ∷ 110 ∷ []) → Runs text old next (place + 1) (place + 1) (on_line (take (place + 1) text))
Runs-newline text old out next run place so_far utf8 within is new =
    let shown : shown_byte (get_or text place 0) ≡ 92 ∷ 110 ∷ [] = ap shown_byte is in
    rw (on_line-more text place within, shown)
    (Runs-put text old out next run place (place + 1) (on_line (take place text)) (92 ∷ 110 ∷ []) so_far new (omega (arith, within))
    (IsCharBoundary-after_ascii text place utf8 within (omega (arith, is))))
