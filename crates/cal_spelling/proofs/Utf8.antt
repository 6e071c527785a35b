-- Texts that are UTF-8, cut at bytes of ASCII and spelled with escapes.
use Rattle.std.proofs.Common.{◌≡◌, ℕ, zero, suc, ◌+◌, ◌<◌, Bool, true, false, ◌||◌, eqb, List, []}
use Rattle.std.proofs.Common.{◌∷◌, ◌++◌, length, get_or, drop, map, refl, sym, subst, append_assoc}
use Rattle.std.proofs.Common.{add-one, arith, lit<}
use Rattle.std.specs.Prelude.{slice_index, Some}
use Rattle.std.specs.Str.{IsUtf8, IsCharBoundary}
use Rattle.std.proofs.lemmas.Bool.{eqb-true}
use Rattle.std.proofs.lemmas.List.{length-append}
use Rattle.std.proofs.lemmas.Bool.Decides.{nat_tests}
use Rattle.std.proofs.lemmas.Str.{IsUtf8-append, IsUtf8-take, IsUtf8-drop, IsUtf8-from_ascii}
use Rattle.std.proofs.lemmas.Str.{IsCharBoundary-after_ascii}
use Rattle.std.proofs.Math.Seq.{take-append_seam}
use Rattle.cal_line.specs.Escapes.{escaped, escaped_byte}
use Rattle.cal_line.specs.Tokens.{Spell, nothing, itself, behind_backslash, byte_of, spelled_text}
use Rattle.cal_line.specs.Tokens.{taken, token}
use Rattle.cal_line.proofs.TokenSteps.{Spells-spelled_text}

byte_at : (front rest : List ℕ) (byte : ℕ) → slice_index (front ++ byte ∷ rest) (length front)
    ≡ byte
byte_at [] rest byte = refl
byte_at (first ∷ front) rest byte = byte_at front rest byte

byte_or : (front rest : List ℕ) (byte : ℕ) → get_or (front ++ byte ∷ rest) (length front) 0 ≡ byte
byte_or [] rest byte = refl
byte_or (first ∷ front) rest byte = byte_or front rest byte

seam : (front rest : List ℕ) (byte : ℕ) → drop (suc (length front)) (front ++ byte ∷ rest) ≡ rest
seam [] rest byte = refl
seam (first ∷ front) rest byte = seam front rest byte

after_seam : (front rest : List ℕ) (byte : ℕ) → drop (length front + 1) (front ++ byte ∷ rest)
    ≡ rest
after_seam front rest byte = rw add-one (seam front rest byte)

-- what stands before a byte of ASCII is UTF-8, and so is what stands behind it
pub utf8_before : (front rest : List ℕ) (byte : ℕ) → byte < 128 → IsUtf8 (front ++ byte ∷ rest)
    → IsUtf8 front
utf8_before front rest byte ascii text =
    let boundary : IsCharBoundary (front ++ byte ∷ rest) (length front) = (
      omega (arith, length-append front (byte ∷ rest)),
      λ within high. absurd
          (omega (arith, byte_at front rest byte)),
    ) in
    subst IsUtf8 (take-append_seam front (byte ∷ rest))
    (IsUtf8-take (front ++ byte ∷ rest) (length front) text boundary)

pub utf8_behind : (front rest : List ℕ) (byte : ℕ) → byte < 128 → IsUtf8 (front ++ byte ∷ rest)
    → IsUtf8 rest
utf8_behind front rest byte ascii text =
    let boundary = IsCharBoundary-after_ascii (front ++ byte ∷ rest) (length front) text
    (omega (arith, length-append front (byte ∷ rest)))
    (omega (arith, byte_or front rest byte)) in
    subst IsUtf8 (after_seam front rest byte) (IsUtf8-drop (front ++ byte ∷ rest) (length front + 1)
    text boundary)

one_ascii : (byte : ℕ) → byte < 128 → IsUtf8 (byte ∷ [])
one_ascii byte ascii = IsUtf8-from_ascii (byte ∷ []) by_place
  where
    by_place : (i : ℕ) → slice_index (byte ∷ []) i < 128
    by_place zero = ascii
    by_place (suc i) = lit< tt

-- a byte of ASCII between two texts
pub utf8_joined : (front rest : List ℕ) (byte : ℕ) → byte < 128 → IsUtf8 front → IsUtf8 rest
    → IsUtf8 (front ++ byte ∷ rest)
utf8_joined front rest byte ascii before behind =
    IsUtf8-append front (byte ∷ rest) before (IsUtf8-append (byte ∷ []) rest (one_ascii byte ascii)
    behind)

-- ---- escapes

-- with one byte more before the seam
moved : (front rest : List ℕ) (byte : ℕ) → (front ++ byte ∷ []) ++ rest ≡ front ++ byte ∷ rest
moved front rest byte = append_assoc front (byte ∷ []) rest

token_byte : (b : ℕ) (p q : Bool) → eqb b 44 ≡ p → eqb b 61 ≡ q → byte_of (token b) ≡ b
token_byte b true q is_comma is_equals = let same = eqb-true b 44 is_comma in rw same refl
token_byte b false true is_comma is_equals = let same = eqb-true b 61 is_equals in rw same refl
token_byte b false false is_comma is_equals = simp (is_comma, is_equals)

taken_utf8 : (front bytes : List ℕ) (b : ℕ) (newline : Bool) → eqb b 110 ≡ newline
    → IsUtf8 (front ++ 92 ∷ b ∷ bytes) → IsUtf8 (front ++ byte_of (taken b) ∷ bytes)
taken_utf8 front bytes b true newline text =
    let before = utf8_before front (b ∷ bytes) 92 (lit< tt) text in
    let more = utf8_behind front (b ∷ bytes) 92 (lit< tt) text in
    let letter : b ≡ 110 = eqb-true b 110 newline in
    let behind = utf8_behind [] bytes b (omega (arith, letter)) more in
    let is : byte_of (taken b) ≡ 10 = simp newline in
    rw is (utf8_joined front bytes 10 (lit< tt) before behind)
taken_utf8 front bytes b false newline text =
    let before = utf8_before front (b ∷ bytes) 92 (lit< tt) text in
    let more = utf8_behind front (b ∷ bytes) 92 (lit< tt) text in
    let is : byte_of (taken b) ≡ b = simp newline in
    rw is (IsUtf8-append front (b ∷ bytes) before more)

spelled_behind : {bytes : List ℕ} {tokens : List _} (front : List ℕ) → Spell bytes tokens
    → IsUtf8 (front ++ bytes) → IsUtf8 (front ++ map byte_of tokens)
spelled_behind front nothing text = text
spelled_behind front (itself {b} {bytes} {tokens} other spell) text =
    let is = token_byte b (eqb b 44) (eqb b 61) refl refl in
    let rest = spelled_behind (front ++ b ∷ []) spell
    (subst IsUtf8 (sym (moved front bytes b)) text) in
    rw is (subst IsUtf8 (moved front (map byte_of tokens) b) rest)
spelled_behind front (behind_backslash {b} {bytes} {tokens} spell) text =
    let c = byte_of (taken b) in
    let rest = spelled_behind (front ++ c ∷ []) spell
    (subst IsUtf8 (sym (moved front bytes c)) (taken_utf8 front bytes b (eqb b 110) refl text)) in
    subst IsUtf8 (moved front (map byte_of tokens) c) rest

-- what a text of UTF-8 spells is UTF-8
pub spelled_utf8 : (bytes text : List ℕ) → IsUtf8 bytes → spelled_text bytes ≡ Some text
    → IsUtf8 text
spelled_utf8 bytes text utf8 read =
    let spells = Spells-spelled_text bytes text read in
    subst IsUtf8 (sym spells.2) (spelled_behind [] spells.1 utf8)

escaped_more : (front text : List ℕ) (b : ℕ) → IsUtf8 (front ++ b ∷ text) → (newline special : Bool)
    → eqb b 10 ≡ newline → (eqb b 92 || eqb b 44 || eqb b 61) ≡ special
    → IsUtf8 ((front ++ escaped_byte b) ++ text)
escaped_more front text b utf8 true special is also =
    let newline : b ≡ 10 = eqb-true b 10 is in
    let before = utf8_before front text b (omega (arith, newline)) utf8 in
    let behind = utf8_behind front text b (omega (arith, newline)) utf8 in
    let written : escaped_byte b ≡ 92 ∷ 110 ∷ [] = simp is in
    rw written (IsUtf8-append (front ++ 92 ∷ 110 ∷ []) text
    (utf8_joined front (110 ∷ []) 92 (lit< tt) before (one_ascii 110 (lit< tt))) behind)
escaped_more front text b utf8 false true is also =
    let small : b < 128 = grind (arith, nat_tests) in
    let before = utf8_before front text b small utf8 in
    let behind = utf8_behind front text b small utf8 in
    let written : escaped_byte b ≡ 92 ∷ b ∷ [] = simp (is, also) in
    rw written (IsUtf8-append (front ++ 92 ∷ b ∷ []) text
    (utf8_joined front (b ∷ []) 92 (lit< tt) before (one_ascii b small)) behind)
escaped_more front text b utf8 false false is also =
    let written : escaped_byte b ≡ b ∷ [] = simp (is, also) in
    rw written (subst IsUtf8 (sym (moved front text b)) utf8)

escaped_behind : (front text : List ℕ) → IsUtf8 (front ++ text) → IsUtf8 (front ++ escaped text)
escaped_behind front [] utf8 = utf8
escaped_behind front (b ∷ text) utf8 =
    let next = escaped_more front text b utf8 (eqb b 10) (eqb b 92 || eqb b 44 || eqb b 61) refl
    refl in
    subst IsUtf8 (append_assoc front (escaped_byte b) (escaped text))
    (escaped_behind (front ++ escaped_byte b) text next)

-- what is written of a text of UTF-8 is UTF-8
pub escaped_utf8 : (text : List ℕ) → IsUtf8 text → IsUtf8 (escaped text)
escaped_utf8 text utf8 = escaped_behind [] text utf8
