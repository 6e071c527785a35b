-- What of a text is written.
use Rattle.std.proofs.Common.{◌≡◌, ℕ, ◌+◌, ◌<◌, ◌≤◌, List, [], ◌∷◌, ◌++◌, length, get_or, take, drop, refl, sym, ap, ◌∙◌, append_assoc, append-nil, arith}
use Rattle.std.specs.List.{between}
use Rattle.std.specs.Str.{IsUtf8}
use Rattle.std.proofs.lemmas.List.{take_more, take_all}
use Rattle.std.proofs.lemmas.Str.{IsCharBoundary-after_ascii}
use Rattle.cal_line.specs.Escapes.{escaped, escaped_byte}
use Rattle.cal_line.proofs.Runs.{Runs, Runs-more, Runs-put, Runs-end}

-- what is written of one text and then of another
pub escaped-append : (xs ys : List ℕ) → escaped (xs ++ ys) ≡ escaped xs ++ escaped ys
escaped-append [] ys = refl
escaped-append (x ∷ xs) ys =
    ap (λ bs. escaped_byte x ++ bs) (escaped-append xs ys) ∙ sym (append_assoc (escaped_byte x) (escaped xs) (escaped ys))

-- Up to this place the text is written.
abbrev pub Writes : List ℕ → List ℕ → List ℕ → ℕ → ℕ → Type 0
Writes text old out run place = Runs text old out run place (escaped (take place text))

-- one byte more is written
escaped-more : (text : List ℕ) (place : ℕ) → place < length text → escaped (take (place + 1) text) ≡ escaped (take place text) ++ escaped_byte (get_or text place 0)
escaped-more text place within =
    ap escaped (take_more text place 0 within)
    ∙ escaped-append (take place text) (get_or text place 0 ∷ [])
    ∙ ap (λ (last : List ℕ). escaped (take place text) ++ last) (append-nil (escaped_byte (get_or text place 0)))

-- as it is, in the run
pub Writes-plain : (text old out : List ℕ) (run place : ℕ) → Writes text old out run place → place < length text → escaped_byte (get_or text place 0) ≡ get_or text place 0 ∷ [] → Writes text old out run (place + 1)
Writes-plain text old out run place so_far within as_is =
    rw (escaped-more text place within, as_is) (Runs-more text old out run place (escaped (take place text)) so_far within)

-- or behind a backslash, behind the run
pub Writes-special : (text old out next : List ℕ) (run place : ℕ) → Writes text old out run place → IsUtf8 text → place < length text → get_or text place 0 < 128 → next ≡ (out ++ between run place text) ++ escaped_byte (get_or text place 0) → Writes text old next (place + 1) (place + 1)
Writes-special text old out next run place so_far utf8 within ascii is =
    rw (escaped-more text place within)
    (Runs-put text old out next run place (place + 1) (escaped (take place text)) (escaped_byte (get_or text place 0)) so_far is (omega arith) (IsCharBoundary-after_ascii text place utf8 within ascii))

-- the last run ends the text
pub Writes-all : (text old out next : List ℕ) (run place : ℕ) → Writes text old out run place → length text ≤ place → next ≡ out ++ drop run text → next ≡ old ++ escaped text
Writes-all text old out next run place so_far past is =
    Runs-end text old out next run place (escaped (take place text)) so_far past is ∙ ap (λ (all : List ℕ). old ++ escaped all) (take_all place text past)
