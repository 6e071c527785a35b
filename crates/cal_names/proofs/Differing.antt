-- Where two lists differ first, and that declarations with equal words are equal.
use Rattle.std.proofs.Common.{◌≡◌, ◌≢◌, ℕ, zero, suc, ◌+◌, ◌*◌, ◌^◌, ◌<◌, List, [], ◌∷◌, length, get_or, drop, sym, refl, ap, ◌∙◌, arith}
use mathlib.Core.Logic.{dite}
use native.Mathlib.Decide.{ℕ_discrete}
use Rattle.cal_value.specs.Kinds.{kind_node}
use Rattle.cal_value.specs.OrderLaws.{kind_node-one}
use Rattle.cal_words.specs.Back.{text_of}
use Rattle.cal_words.specs.Records.{IsText}
use Rattle.cal_words.specs.Words.{text_words}
use Rattle.cal_words.proofs.Decoded.{text_of-text_words}
use Rattle.cal_names.specs.Declarations.{Declaration, IsDeclaration, name_words}

-- the place at which two lists differ first
pub record DifferAt (xs ys : List ℕ) : Type 0 where
  pub place : ℕ
  pub inside : place < length xs
  pub before : (j : ℕ) → j < place → get_or xs j 0 ≡ get_or ys j 0
  pub differs : get_or xs place 0 ≢ get_or ys place 0

one_later : (x y : ℕ) (xs ys : List ℕ) → x ≡ y → DifferAt xs ys → DifferAt (x ∷ xs) (y ∷ ys)
one_later x y xs ys same d = record {
  place = suc d.place;
  inside = let inside = d.inside in omega arith;
  before = before;
  differs = d.differs;
}
  where
    before : (j : ℕ) → j < suc d.place → get_or (x ∷ xs) j 0 ≡ get_or (y ∷ ys) j 0
    before zero l = same
    before (suc j) l = d.before j (omega arith)

pub first_difference : (xs ys : List ℕ) → length xs ≡ length ys → xs ≢ ys → DifferAt xs ys
first_difference [] [] long other = absurd (other refl)
first_difference [] (y ∷ ys) long other = absurd (omega arith)
first_difference (x ∷ xs) [] long other = absurd (omega arith)
first_difference (x ∷ xs) (y ∷ ys) long other = dite (ℕ_discrete x y)
    (λ same. one_later x y xs ys same (first_difference xs ys (omega arith) (λ rest. other (λ i. same i ∷ rest i))))
    (λ differ. record { place = 0; inside = omega arith; before = λ j l. absurd (omega arith); differs = differ })

-- texts of equal lengths and words are equal
pub equal_texts : (a b : List ℕ) → IsText a → IsText b → length a ≡ length b → text_words a ≡ text_words b → a ≡ b
equal_texts a b is_a is_b long words =
    sym (text_of-text_words a is_a.each_byte) ∙ (λ i. text_of (long i) (words i)) ∙ text_of-text_words b is_b.each_byte

-- declarations with equal words are equal
pub equal_declarations : (a b : Declaration) → IsDeclaration a → IsDeclaration b → name_words a ≡ name_words b → a ≡ b
equal_declarations a b is_a is_b same =
    let heads : kind_node a.kind * 2 ^ 32 + length a.name ≡ kind_node b.kind * 2 ^ 32 + length b.name = ap (λ (ws : List ℕ). get_or ws 2 0) same in
    let short_a = is_a.text.short in
    let short_b = is_b.text.short in
    let kinds : kind_node a.kind ≡ kind_node b.kind = omega arith in
    let lengths : length a.name ≡ length b.name = omega arith in
    let kind : a.kind ≡ b.kind = kind_node-one a.kind b.kind kinds in
    let props : a.props ≡ b.props = ap (λ (ws : List ℕ). get_or ws 3 0) same in
    let words : text_words a.name ≡ text_words b.name = ap (λ (ws : List ℕ). drop 4 ws) same in
    let name : a.name ≡ b.name = equal_texts a.name b.name is_a.text is_b.text lengths words in
    (λ i. record { name = name i; kind = kind i; props = props i })
