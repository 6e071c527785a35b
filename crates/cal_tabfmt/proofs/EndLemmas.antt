-- Texts without the spaces at their ends, and a line that grows.
use Rattle.std.proofs.Common.{◌≡◌, ◌≢◌, ℕ, zero, suc, ◌+◌, ◌-◌, ◌<◌, ◌==◌, Bool, true, false, List, [], ◌∷◌, ◌++◌, length, if◌then◌else◌, refl, sym, ap, ap₂, subst, ◌∙◌, append_assoc, append-nil, length-append, eqb-true, ne_eqb, ◌≤◌, get_or, take, arith}
use Rattle.std.specs.Str.{IsCharBoundary}
use Rattle.std.proofs.lemmas.Bool.{cond-true, cond-false}
use Rattle.std.proofs.lemmas.List.{replicate-append-replicate, length-replicate, take_more}
use Rattle.std.proofs.lemmas.Str.{IsCharBoundary-from_ascii}
use Rattle.cal_tabfmt.specs.Ends.{HasLine, gap}
use Rattle.cal_tabfmt.specs.Grid.{before_kept, placed, spaces, width, without_end}
use Rattle.cal_tabfmt.specs.declared.shape.Shape.{Shape}

-- before something, a byte is kept
kept_before : (b : ℕ) (cs : List ℕ) → 0 < length cs → before_kept b cs ≡ b ∷ cs
kept_before b [] some = absurd (omega (arith, some))
kept_before b (c ∷ cs) some = refl

-- nothing is kept of spaces
pub without_end-spaces : (n : ℕ) → without_end (spaces n) ≡ []
without_end-spaces zero = refl
without_end-spaces (suc n) = ap (before_kept 32) (without_end-spaces n)

-- spaces can be cut anywhere
spaces-ascii : (n i : ℕ) → get_or (spaces n) i 0 < 128
spaces-ascii zero i = omega arith
spaces-ascii (suc n) zero = omega arith
spaces-ascii (suc n) (suc i) = spaces-ascii n i

pub spaces-boundary : (text : List ℕ) (n i : ℕ) → text ≡ spaces n → i ≤ n → IsCharBoundary text i
spaces-boundary text n i is within =
    IsCharBoundary-from_ascii text i (rw is (spaces-ascii n)) (omega (arith, within, ap length is, length-replicate {A = ℕ} n 32))

-- nor of spaces behind a text
pub without_end-more : (line : List ℕ) (n : ℕ) → without_end (line ++ spaces n) ≡ without_end line
without_end-more [] n = without_end-spaces n
without_end-more (b ∷ line) n = ap (before_kept b) (without_end-more line n)

-- all of a text is kept before one of which something is kept
pub without_end-text : (line text : List ℕ) → 0 < length (without_end text) → without_end (line ++ text) ≡ line ++ without_end text
without_end-text [] text some = refl
without_end-text (b ∷ line) text some =
    ap (before_kept b) (without_end-text line text some)
    ∙ kept_before b (line ++ without_end text) (omega (arith, some, length-append line (without_end text)))

-- a text is what is kept of it and spaces
abbrev pub Splits : List ℕ → List ℕ → Type 0
Splits text kept = (n : ℕ) × (text ≡ kept ++ spaces n)

space_or_byte : (b : ℕ) (bs : List ℕ) (n : ℕ) → bs ≡ spaces n → (t : Bool) → (b == 32) ≡ t → Splits (b ∷ bs) (if t then [] else b ∷ [])
space_or_byte b bs n is true space = (suc n, ap₂ (λ (c : ℕ) (cs : List ℕ). c ∷ cs) (eqb-true b 32 space) is)
space_or_byte b bs n is false other = (n, ap (λ (cs : List ℕ). b ∷ cs) is)

splits_more : (b : ℕ) (bs kept : List ℕ) → Splits bs kept → Splits (b ∷ bs) (before_kept b kept)
splits_more b bs [] s = space_or_byte b bs s.0 s.1 (b == 32) refl
splits_more b bs (c ∷ cs) s = (s.0, ap (λ (rest : List ℕ). b ∷ rest) s.1)

splits : (text : List ℕ) → Splits text (without_end text)
splits [] = (0, refl)
splits (b ∷ bs) = splits_more b bs (without_end bs) (splits bs)

pub kept_and_spaces : (text : List ℕ) → text ≡ without_end text ++ spaces (length text - length (without_end text))
kept_and_spaces text =
    let s = splits text in
    let counted : length text ≡ length (without_end text) + s.0 =
    ap length s.1 ∙ length-append (without_end text) (spaces s.0)
    ∙ ap (λ (n : ℕ). length (without_end text) + n) (length-replicate s.0 32) in
    let left : s.0 ≡ length text - length (without_end text) = omega (arith, counted) in
    s.1 ∙ ap (λ (n : ℕ). without_end text ++ spaces n) left

pub without_end-le : (text : List ℕ) → length (without_end text) ≤ length text
without_end-le text =
    let s = splits text in
    let counted = ap length s.1 ∙ length-append (without_end text) (spaces s.0) in
    omega (arith, counted)

-- one byte more at a text's end
pub without_end-space : (text : List ℕ) → without_end (text ++ 32 ∷ []) ≡ without_end text
without_end-space text = without_end-more text 1

one_kept : (b : ℕ) → (b == 32) ≡ false → without_end (b ∷ []) ≡ b ∷ []
one_kept b other = cond-false (b == 32) [] (b ∷ []) other

pub without_end-other : (text : List ℕ) (b : ℕ) → (b == 32) ≡ false → without_end (text ++ b ∷ []) ≡ text ++ b ∷ []
without_end-other text b other =
    let one = one_kept b other in
    without_end-text text (b ∷ []) (rw one (omega arith)) ∙ ap (λ (last : List ℕ). text ++ last) one

empty_is : (xs : List ℕ) → length xs ≡ 0 → xs ≡ []
empty_is [] none = refl
empty_is (x ∷ xs) none = absurd (omega (arith, none))

-- of which nothing is kept is spaces
blank : (text : List ℕ) → length (without_end text) ≡ 0 → text ≡ spaces (length text)
blank text none =
    let all : length text - length (without_end text) ≡ length text = omega (arith, none) in
    kept_and_spaces text ∙ ap₂ (λ (kept : List ℕ) (n : ℕ). kept ++ spaces n) (empty_is (without_end text) none) all

-- a text is looked at from its end: a space
last_of : (text : List ℕ) (end : ℕ) → 0 < end → end ≤ length text → take end text ≡ take (end - 1) text ++ get_or text (end - 1) 0 ∷ []
last_of text end some within =
    let back : end ≡ (end - 1) + 1 = omega (arith, some) in
    ap (λ (n : ℕ). take n text) back ∙ take_more text (end - 1) 0 (omega (arith, some, within))

pub end-space : (text : List ℕ) (end : ℕ) → 0 < end → end ≤ length text → get_or text (end - 1) 0 ≡ 32 → without_end (take end text) ≡ without_end (take (end - 1) text)
end-space text end some within is =
    ap without_end (last_of text end some within)
    ∙ ap (λ (b : ℕ). without_end (take (end - 1) text ++ b ∷ [])) is
    ∙ without_end-space (take (end - 1) text)

-- another byte
pub end-other : (text : List ℕ) (end : ℕ) → 0 < end → end ≤ length text → get_or text (end - 1) 0 ≢ 32 → without_end (take end text) ≡ take end text
end-other text end some within other =
    let last = last_of text end some within in
    ap without_end last
    ∙ without_end-other (take (end - 1) text) (get_or text (end - 1) 0) (ne_eqb _ _ other)
    ∙ sym last

-- nothing
pub end-none : (text : List ℕ) (end : ℕ) → end ≤ 0 → without_end (take end text) ≡ take end text
end-none text zero none = refl
end-none text (suc end) none = absurd (omega (arith, none))

-- a line is begun
pub HasLine-start : (before : List ℕ) → HasLine before before 0 []
HasLine-start before = record { kept = sym (append-nil before); all = refl }

module _ (before out line : List ℕ) (pending : ℕ) (has : HasLine before out pending line) where
  -- spaces are added
  pub HasLine-spaces : (n sum : ℕ) → sum ≡ pending + n → HasLine before out sum (line ++ spaces n)
  HasLine-spaces n sum is = record {
    kept = has.kept ∙ ap (λ (t : List ℕ). before ++ t) (sym (without_end-more line n));
    all = ap (λ (t : List ℕ). t ++ spaces n) has.all
        ∙ append_assoc (without_end line) (spaces pending) (spaces n)
        ∙ ap (λ (t : List ℕ). without_end line ++ t) (replicate-append-replicate pending n 32)
        ∙ ap₂ (λ (kept : List ℕ) (k : ℕ). kept ++ spaces k) (sym (without_end-more line n)) (sym is);
  }

  -- or a text of spaces
  pub HasLine-blank : (text : List ℕ) (sum : ℕ) → length (without_end text) ≡ 0 → sum ≡ pending + length text → HasLine before out sum (line ++ text)
  HasLine-blank text sum none is =
      subst (λ (t : List ℕ). HasLine before out sum (line ++ t)) (sym (blank text none)) (HasLine-spaces (length text) sum is)

  -- or a text of which something is kept
  pub HasLine-text : (text new : List ℕ) (left : ℕ) → 0 < length (without_end text) → new ≡ (out ++ spaces pending) ++ without_end text → left ≡ length text - length (without_end text)
      → HasLine before new left (line ++ text)
  HasLine-text text new left some is count = record {
    kept = is
        ∙ ap (λ (t : List ℕ). (t ++ spaces pending) ++ without_end text) has.kept
        ∙ ap (λ (t : List ℕ). t ++ without_end text) (append_assoc before (without_end line) (spaces pending))
        ∙ ap (λ (t : List ℕ). (before ++ t) ++ without_end text) (sym has.all)
        ∙ append_assoc before line (without_end text)
        ∙ ap (λ (t : List ℕ). before ++ t) (sym whole);
    all = ap (λ (t : List ℕ). line ++ t) (kept_and_spaces text)
        ∙ sym (append_assoc line (without_end text) (spaces (length text - length (without_end text))))
        ∙ ap₂ (λ (t : List ℕ) (n : ℕ). t ++ spaces n) (sym whole) (sym count);
  }
    where
      whole : without_end (line ++ text) ≡ line ++ without_end text
      whole = without_end-text line text some

-- a text stands at the right end of its column
pub HasLine-right : (before out line text : List ℕ) (pending : ℕ) (shape : Shape) → shape.right ≡ true
    → HasLine before out pending ((line ++ spaces (shape.width - width text)) ++ text) → HasLine before out pending (line ++ placed shape text)
HasLine-right before out line text pending shape right has =
    let room = spaces (shape.width - width text) in
    subst (HasLine before out pending)
    (append_assoc line room text ∙ ap (λ (t : List ℕ). line ++ t) (sym (cond-true shape.right (room ++ text) (text ++ room) right))) has

-- or at the left one
pub HasLine-left : (before out line text : List ℕ) (pending : ℕ) (shape : Shape) → shape.right ≡ false
    → HasLine before out pending ((line ++ text) ++ spaces (shape.width - width text)) → HasLine before out pending (line ++ placed shape text)
HasLine-left before out line text pending shape left has =
    let room = spaces (shape.width - width text) in
    subst (HasLine before out pending)
    (append_assoc line text room ∙ ap (λ (t : List ℕ). line ++ t) (sym (cond-false shape.right (room ++ text) (text ++ room) left))) has

-- behind a gap
pub HasLine-gap : (before out line text : List ℕ) (pending place : ℕ) → place ≢ 0
    → HasLine before out pending ((line ++ spaces 1) ++ text) → HasLine before out pending (line ++ (gap place ++ text))
HasLine-gap before out line text pending zero some has = absurd (some refl)
HasLine-gap before out line text pending (suc place) some has =
    subst (HasLine before out pending) (append_assoc line (spaces 1) text) has
