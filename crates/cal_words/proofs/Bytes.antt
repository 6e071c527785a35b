use Rattle.std.proofs.Common.{◌≡◌, ℕ, zero, suc, ◌+◌, ◌*◌, ◌/◌, ◌<◌, List, [], ◌∷◌, length}
use Rattle.std.proofs.Common.{get_or, drop, refl, ◌∙◌, arith, get_or-drop}
use Rattle.std.specs.Int.{to_le_bytes, w64}
use Rattle.std.proofs.lemmas.List.FromFn.{length-map-range_with_len, get_or-map-range_with_len}
use Rattle.std.proofs.lemmas.Grind.{common_steps}
use Rattle.std.proofs.lemmas.Nat.{le_bytes_8}
use Rattle.cal_words.specs.Words.{text_word, text_words}

-- each element is a byte
abbrev pub AreBytes : List ℕ → Type 0
AreBytes bs = (i : ℕ) → get_or bs i 0 < 256

pub length-text_words : (text : List ℕ) → length (text_words text) ≡ (length text + 7) / 8
length-text_words text = length-map-range_with_len (text_word text) 0 ((length text + 7) / 8)

pub get_or-text_words :
    (text : List ℕ) (i : ℕ) → i < (length text + 7) / 8
    → get_or (text_words text) i 0 ≡ text_word text i
get_or-text_words text i h =
    get_or-map-range_with_len (text_word text) 0 ((length text + 7) / 8) i i 0 h (omega arith)

-- the first eight elements, zeros where there are fewer
abbrev eight : List ℕ → List ℕ
eight bs =
    get_or bs 0 0 ∷ get_or bs 1 0 ∷ get_or bs 2 0 ∷ get_or bs 3 0
    ∷ get_or bs 4 0 ∷ get_or bs 5 0 ∷ get_or bs 6 0 ∷ get_or bs 7 0 ∷ []

eight-get : (bs : List ℕ) (j : ℕ) → j < 8 → get_or (eight bs) j 0 ≡ get_or bs j 0
eight-get bs zero h = refl
eight-get bs (suc zero) h = refl
eight-get bs (suc (suc zero)) h = refl
eight-get bs (suc (suc (suc zero))) h = refl
eight-get bs (suc (suc (suc (suc zero)))) h = refl
eight-get bs (suc (suc (suc (suc (suc zero))))) h = refl
eight-get bs (suc (suc (suc (suc (suc (suc zero)))))) h = refl
eight-get bs (suc (suc (suc (suc (suc (suc (suc zero))))))) h = refl
eight-get bs (suc (suc (suc (suc (suc (suc (suc (suc j)))))))) h = absurd (omega arith)

eight-bytes : (bs : List ℕ) → AreBytes bs → AreBytes (eight bs)
eight-bytes bs each j =
    let front = eight-get bs j in
    let byte = each j in
    grind (arith, common_steps)

-- byte j of word i of a text is byte 8 * i + j of the text
pub get_or-text_word :
    (text : List ℕ) (i j : ℕ) → AreBytes text → j < 8
    → get_or (to_le_bytes w64 (text_word text i)) j 0 ≡ get_or text (8 * i + j) 0
get_or-text_word text i j each h =
    let bs = drop (8 * i) text in
    let bytes = eight-bytes bs (λ k. rw get_or-drop (each (8 * i + k))) in
    let same = le_bytes_8 (eight bs) (text_word text i) refl bytes refl in
    (λ k. get_or (same k) j 0) ∙ eight-get bs j h ∙ get_or-drop (8 * i) text j 0
