-- A text is its first piece, and the pieces behind the mark that ends it.
use Rattle.std.proofs.Common.{◌≡◌, ℕ, ◌+◌, ◌<◌, true, false, cond, eqb, Some, None, List, [], ◌∷◌, ◌++◌, length, take, drop, get_or, refl, sym, ap, ◌∙◌, inl, inr, arith}
use Rattle.std.specs.List.{All, onto_first, list_all, position_or_len}
use Rattle.std.proofs.lemmas.Bool.{ne_eqb, eq-eqb, cases_Bool, false_from_ne_true}
use Rattle.std.proofs.lemmas.List.{get_or_default}
use Rattle.std.proofs.lemmas.List.Sums.{position_or_len_is}
use Rattle.std.proofs.lemmas.List.Splits.{slice_split_first, slice_split_none, slice_split_at, slice_split-cons_yes, slice_split-cons_no, join_with_byte-slice_split}
use Rattle.memchr.specs.Find.{NoneBefore, Nowhere, Passes, is_byte}
use Rattle.cal_script.specs.Parts.{is_event_name}
use Rattle.cal_script.specs.Lines.{pieces, words_of, joined, is_word, no_word, one_word, two_words, three_words, some_words, word_and_rest}

-- no byte is the mark, by place and by element
abbrev pub HasNone : ℕ → List ℕ → Type 0
HasNone mark xs = (i : ℕ) → i < length xs → get_or xs i 0 ≡ mark → ⊥

no_byte_is : (mark : ℕ) (xs : List ℕ) → HasNone mark xs → All (λ x. eqb x mark ≡ false) xs
no_byte_is mark xs h k d lt = ne_eqb _ _ (rw (get_or_default xs k d 0 lt) (h k lt))

-- a text without the mark is one piece
pub pieces_of_one : (mark : ℕ) (text : List ℕ) → HasNone mark text → pieces mark text ≡ text ∷ []
pieces_of_one mark text h = slice_split_none _ text (no_byte_is mark text h)

-- a text is what stands before its first mark, and the pieces behind that
pub pieces_at : (mark : ℕ) (bytes text : List ℕ) (place : ℕ) → bytes ≡ text → NoneBefore (Passes (is_byte mark) bytes) 0 (length bytes) place → Passes (is_byte mark) bytes place
    → pieces mark text ≡ take place text ∷ pieces mark (drop (place + 1) text)
pieces_at mark bytes text place are found here =
    let test = is_byte mark in
    let first : position_or_len test text ≡ place =
    rw (← are) (position_or_len_is test bytes place 0 (omega (arith, found.high)) (λ k below. false_from_ne_true _ (found.before k (omega arith) below)) (λ _. here))
    in
    let within : position_or_len test text < length text = omega (arith, first, found.high, ap length are) in
    rw first at (slice_split_first test text 0 within)

-- a text in which no mark is found is one piece
pub pieces_of_all : (mark : ℕ) (bytes text : List ℕ) → bytes ≡ text → Nowhere (Passes (is_byte mark) bytes) 0 (length bytes) → pieces mark text ≡ text ∷ []
pieces_of_all mark bytes text are none =
    rw (← are) (pieces_of_one mark bytes (λ k below is. none k (omega arith) below (eq-eqb _ _ is)))

eqb_same : (n : ℕ) → eqb n n ≡ true
eqb_same n = eq-eqb n n refl

-- a text is its first piece, and the pieces behind the mark that ends it
pub pieces_of_two : (mark : ℕ) (text piece rest : List ℕ) → text ≡ piece ++ (mark ∷ rest) → HasNone mark piece → pieces mark text ≡ piece ∷ pieces mark rest
pieces_of_two mark text piece rest e h = rw e (slice_split_at _ piece mark rest (no_byte_is mark piece h) (eqb_same mark))

-- what stands behind a mark has a first piece
pub more_pieces : (mark : ℕ) (text : List ℕ) → (piece : List ℕ) × (others : List (List ℕ)) × (pieces mark text ≡ piece ∷ others)
more_pieces mark [] = ([], [], refl)
more_pieces mark (byte ∷ text) =
    elim (cases_Bool (eqb byte mark)) [
      | inl is_mark ↦ ([], pieces mark text, slice_split-cons_yes (λ x. eqb x mark) byte text is_mark)
      | inr is_other ↦
          let more = more_pieces mark text in
          (byte ∷ more.0, more.1, slice_split-cons_no (λ x. eqb x mark) byte text is_other ∙ ap (onto_first byte) more.2)
    ]

-- the words of a text, joined, are the text
pub joined_words : (text : List ℕ) → joined (words_of text) ≡ text
joined_words text = join_with_byte-slice_split 32 text

-- Words that go on where they must end are none.
pub one_word_more : (first rest : List ℕ) → one_word (first ∷ words_of rest) ≡ None
one_word_more first rest = let more = more_pieces 32 rest in rw more.2 refl

pub two_words_more : (first second rest : List ℕ) → two_words (first ∷ second ∷ words_of rest) ≡ None
two_words_more first second rest = let more = more_pieces 32 rest in rw more.2 refl

pub three_words_more : (first second third rest : List ℕ) → three_words (first ∷ second ∷ third ∷ words_of rest) ≡ None
three_words_more first second third rest = let more = more_pieces 32 rest in rw more.2 refl

-- a word and what stands behind its space
pub word_and_rest_of : (first rest : List ℕ) → word_and_rest (first ∷ words_of rest) ≡ cond (is_word first) (Some (first, rest)) None
word_and_rest_of first rest =
    let more = more_pieces 32 rest in
    let whole : joined (more.0 ∷ more.1) ≡ rest = ap joined (sym more.2) ∙ joined_words rest in
    rw (more.2, whole) refl

pub some_words_of : (text : List ℕ) → some_words (words_of text) ≡ cond (list_all is_word (words_of text)) (Some (words_of text)) None
some_words_of text = let more = more_pieces 32 text in rw more.2 refl

-- A name without `#` is none of an event, and neither is one with more than one.
pub is_event_name_one : (declared : List (List ℕ)) (front : List ℕ) → is_event_name declared (front ∷ []) ≡ false
is_event_name_one declared front = refl

pub is_event_name_more : (declared : List (List ℕ)) (front attribute rest : List ℕ) → is_event_name declared (front ∷ attribute ∷ pieces 35 rest) ≡ false
is_event_name_more declared front attribute rest = let more = more_pieces 35 rest in rw more.2 refl

-- what stands behind a space has a word
pub no_word_more : (rest : List ℕ) → no_word (words_of rest) ≡ false
no_word_more rest = let more = more_pieces 32 rest in rw more.2 refl
