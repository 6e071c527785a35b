-- Bytes that are put at a place.
use Rattle.std.proofs.Common.{◌≡◌, ℕ, ◌+◌, ◌^◌, ◌<◌, ◌≤◌, List, [], ◌∷◌, ◌++◌, length, get_or, take, drop}
use Rattle.std.proofs.Common.{append_assoc, decimal, subst, sym, ap, ◌∙◌, arith}
use Rattle.std.proofs.Math.ListN.{set}
use Rattle.std.proofs.lemmas.List.{append-nil}
use Rattle.std.proofs.lemmas.List.{take_at, take_more, take_more_set}
use Rattle.std.proofs.lemmas.Str.{IsUtf8-append, IsUtf8-from_ascii}
use Rattle.std.proofs.lemmas.Str.Ascii.{IsAscii-cons}
use Rattle.std.proofs.lemmas.Fmt.{IsAscii-decimal}
use Rattle.std.specs.Str.{IsUtf8}
use Rattle.cal_line.specs.Escapes.{escaped, escaped_byte}
use Rattle.cal_line.proofs.EscapeSteps.{escaped-append}
use Rattle.cal_write.specs.Page.{IsPage}

-- ---- what stands before a place

-- one byte more of a text
pub put-more : (old now text : List ℕ) (at place : ℕ) → at + place < length now
    → place < length text → take (at + place) now ≡ take at old ++ take place text
    → take (at + (place + 1)) (set now (at + place) (get_or text place 0))
    ≡ take at old ++ take (place + 1) text
put-more old now text at place room within so_far =
    let byte = get_or text place 0 in
    let next : at + (place + 1) ≡ at + place + 1 = omega arith in
    ap (λ n. take n (set now (at + place) byte)) next
    ∙ take_more_set now (at + place) byte room
    ∙ ap (λ l. l ++ byte ∷ []) so_far
    ∙ append_assoc (take at old) (take place text) (byte ∷ [])
    ∙ ap (λ l. take at old ++ l) (sym (take_more text place 0 within))

-- one byte more that is written as it is
pub plain-more : (text : List ℕ) (place : ℕ) → place < length text
    → escaped (take place text) ≡ take place text
    → escaped_byte (get_or text place 0) ≡ get_or text place 0 ∷ []
    → escaped (take (place + 1) text) ≡ take (place + 1) text
plain-more text place within so_far as_is =
    let byte = get_or text place 0 in
    ap escaped (take_more text place 0 within)
    ∙ escaped-append (take place text) (byte ∷ [])
    ∙ (λ j. so_far j ++ (append-nil (escaped_byte byte) ∙ as_is) j)
    ∙ sym (take_more text place 0 within)

-- ---- a page

-- More is put behind the text, in a block with room that is lent for it.
pub IsPage-put : (old mid lent now more : List ℕ) (used end len : ℕ) → IsPage used old
    → take used mid ≡ take used old → lent ≡ mid → length lent ≡ len
    → length now ≡ length lent → end ≤ length now → take end now ≡ take used lent ++ more
    → IsUtf8 more → IsPage end (take len (now ++ drop (length now) mid))
IsPage-put old mid lent now more used end len page front same full long within written utf8 =
    let whole : take len (now ++ drop (length now) mid) ≡ now =
    take_at now (drop (length now) mid) len (long ∙ full) in
    let text : take end now ≡ take used old ++ more =
    written ∙ ap (λ l. take used l ++ more) same ∙ ap (λ l. l ++ more) front in
    subst (λ (bs : List ℕ). IsPage end bs) (sym whole)
    (record {
      within = within;
      utf8 = subst (λ (bs : List ℕ). IsUtf8 bs) (sym text)
          (IsUtf8-append (take used old) more page.utf8 utf8);
    })

-- an `=` and a number are a text
pub IsUtf8-equals : (n : ℕ) → n < 2 ^ 64 → IsUtf8 (61 ∷ decimal n)
IsUtf8-equals n fits =
    IsUtf8-from_ascii (61 ∷ decimal n)
    (IsAscii-cons 61 (decimal n) (omega arith) (IsAscii-decimal n fits))
