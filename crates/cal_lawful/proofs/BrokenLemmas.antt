-- The first item that breaks a rule, while a list is gone through.
use Rattle.std.proofs.Common.{◌≡◌, ℕ, suc, zero, ◌+◌, ◌-◌, ◌<◌, ◌≤◌, List, [], ◌∷◌, ◌++◌, Bool}
use Rattle.std.proofs.Common.{true, false, length, get_or, take, drop, map, ap, subst, sym, refl}
use Rattle.std.proofs.Common.{◌∙◌, add-one, arith, length-append, inl, inr}
use Rattle.std.specs.Prelude.{Option, Some, None, slice_get, ◌↔◌}
use Rattle.std.specs.List.{All}
use Rattle.std.proofs.lemmas.List.{take_more, take_all, take-append-le, take-append-drop}
use Rattle.std.proofs.lemmas.List.{length-take-le, get_or-take, get_or-append_right, take_more_same}
use Rattle.std.proofs.lemmas.List.Elements.{All-push}
use Rattle.std.proofs.lemmas.Option.{get_or_from_slice_get, slice_get-get_or, slice_get_within}
use Rattle.cal_context.specs.Lists.{IsFront}
use Rattle.cal_context.proofs.ListLemmas.{slice_get-IsFront}
use Rattle.cal_lawful.specs.Broken.{BreaksAt, BreaksShape, line_rows, row_line, starts_of, wanted_rows}
use Rattle.cal_lawful.specs.Broken.{written_from, written_row, written_rows}
use Rattle.cal_lawful.specs.Checking.{Tells, next_first}
use Rattle.cal_lawful.specs.declared.shape.RowName.{RowName}
use Rattle.cal_script.specs.declared.journal.JournalText.{JournalText}
use Rattle.cal_script.specs.declared.script.Line.{Line}
use Rattle.cal_script.specs.declared.script.Script.{Script}

module _ {A : Type 0} (P : A → Type 0) where
  pub all-last : (xs : List A) (x : A) → All P (xs ++ x ∷ []) → P x
  all-last xs x all =
      subst P (get_or-append_right xs (x ∷ []) (length xs) (length xs) x refl (omega arith)
      ∙ ap (λ n. get_or (x ∷ []) n x) (by (length xs)))
      (all (length xs) x (let long = length-append xs (x ∷ []) in omega (arith, long)))
    where
      by : (n : ℕ) → n - n ≡ 0
      by n = omega arith

  -- the item of a place breaks the rule, and none before it
  pub breaks-all : (xs : List A) (i : ℕ) (d : A) → i < length xs → All P (take i xs)
      → ¬ P (get_or xs i d)
      → BreaksAt (All P) xs i
  breaks-all xs i d below kept not = record {
    within = below;
    kept = kept;
    broken = λ all. not (all-last (take i xs) (get_or xs i d)
        (subst (All P) (take_more xs i d below) all));
  }

  -- one item more is tested
  pub tells-more : (first : Option ℕ) (xs : List A) (x : A) (row : ℕ) (kept : Bool)
      → row ≡ length xs
      → (kept ≡ true ↔ P x) → Tells P first xs → Tells P (next_first first row kept) (xs ++ x ∷ [])
  tells-more (Some p) xs x row kept at is told = record {
    within = (let within = told.within in let long = length-append xs (x ∷ []) in omega
        (arith, within, long));
    kept = subst (All P) (sym (take-append-le p xs (x ∷ [])
        (let within = told.within in omega (arith, within)))) told.kept;
    broken = λ all. told.broken (subst (All P) (take-append-le (p + 1) xs (x ∷ [])
        (let within = told.within in omega (arith, within))) all);
  }
  tells-more None xs x row true at is told = All-push P xs x told (is.0 refl)
  tells-more None xs x row false at is told = record {
    within = (let long = length-append xs (x ∷ []) in omega (arith, at, long));
    kept = subst (All P) (sym (take-append-le row xs (x ∷ []) (omega (arith, at))
        ∙ take_all row xs (omega (arith, at)))) told;
    broken = λ all.
        let no : false ≡ true = is.1 (all-last xs x
        (subst (All P) (take_all (row + 1) (xs ++ x ∷ [])
        (let long = length-append xs (x ∷ []) in omega (arith, at, long))) all)) in
        cc;
  }

module _ {A : Type 0} where
  front-take : (xs ys : List A) (i : ℕ) → take i xs ≡ take i ys → IsFront (take i xs) ys
  front-take xs ys i same = (
    drop i ys,
    sym (take-append-drop i ys)
        ∙ ap (λ zs. zs ++ drop i ys) (sym same),
  )

  -- the first place at which a list isn't the front of another
  pub breaks-front : (xs ys : List A) (i : ℕ) (d : A) → i < length xs → take i xs ≡ take i ys
      → ¬ (slice_get ys i ≡ Some (get_or xs i d)) → BreaksAt (λ zs. IsFront zs ys) xs i
  breaks-front xs ys i d below same not = record {
    within = below;
    kept = front-take xs ys i same;
    broken = λ front.
        let long : length (take (i + 1) xs) ≡ i + 1 = length-take-le (i + 1) xs
        (omega (arith, below)) in
        not (slice_get-IsFront (take (i + 1) xs) ys i (get_or xs i d) front
        (slice_get-get_or (take (i + 1) xs) i d (omega (arith, long))
        ∙ ap (λ x. Some x) (get_or-take (i + 1) xs i d (omega arith))));
  }

-- ---- rows as they are written

-- the row of one line of a thread, and those behind it
pub line_rows-drop : (thread number i : ℕ) (ls : List Line) → i < length ls
    → line_rows thread number (drop i ls)
    ≡ record { start = false; thread = thread; number = number } ∷ line_rows thread (number + 1)
    (drop (i + 1) ls)
line_rows-drop thread number i ls below =
    subst (λ k. line_rows thread number (drop i ls)
    ≡ record { start = false; thread = thread; number = number } ∷ line_rows thread (number + 1)
    (drop k ls))
    (sym (add-one i)) (by i ls below)
  where
    by : (i : ℕ) (ls : List Line) → i < length ls
        → line_rows thread number (drop i ls)
        ≡ record { start = false; thread = thread; number = number } ∷ line_rows thread (number + 1)
        (drop (suc i) ls)
    by i [] l = absurd (omega (arith, l))
    by zero (x ∷ ls) l = refl
    by (suc i) (x ∷ ls) l = by i ls (omega (arith, l))

-- one line more is no start
pub falses-more : {A : Type 0} (xs : List A) (i : ℕ) → i < length xs
    → map (λ _. false) (take (i + 1) xs) ≡ map (λ _. false) (take i xs) ++ false ∷ []
falses-more {A} xs i below = rw add-one (by xs i below)
  where
    by : (xs : List A) (i : ℕ) → i < length xs → map (λ _. false) (take (suc i) xs) ≡ map
        (λ _. false) (take i xs) ++ false ∷ []
    by [] i l = absurd (omega (arith, l))
    by (x ∷ xs) zero l = refl
    by (x ∷ xs) (suc i) l = ap (λ bs. false ∷ bs) (by xs i (omega (arith, l)))

pub length-written_from : (text : JournalText) (row : ℕ) (starts : List Bool)
    → length (written_from text row starts) ≡ length starts
length-written_from text row [] = refl
length-written_from text row (start ∷ starts) =
    let rest = length-written_from text (row + 1) starts in omega (arith, rest)

pub get_or-written_from : (text : JournalText) (row : ℕ) (starts : List Bool) (i : ℕ) (d : RowName)
    (b : Bool) → i < length starts
    → get_or (written_from text row starts) i d ≡ written_row text (row + i) (get_or starts i b)
get_or-written_from text row [] i d b below = absurd (omega (arith, below))
get_or-written_from text row (start ∷ starts) zero d b below = ap (λ r. written_row text r start)
    (by row)
  where
    by : (n : ℕ) → n ≡ n + 0
    by n = omega arith
get_or-written_from text row (start ∷ starts) (suc i) d b below =
    get_or-written_from text (row + 1) starts i d b (omega (arith, below))
    ∙ ap (λ r. written_row text r (get_or starts i b)) (by row i)
  where
    by : (n i : ℕ) → n + 1 + i ≡ n + suc i
    by n i = omega arith

module _ (script : Script) (text : JournalText) (starts : List Bool) (wanted : List RowName)
    (starts-are : starts ≡ starts_of text.journal.threads)
    (wanted-are : wanted ≡ wanted_rows script) where
  abbrev written : List RowName
  written = written_from text 0 starts

  written-are : written ≡ written_rows text
  written-are = ap (written_from text 0) starts-are

  written-at : (row : ℕ) (d : RowName) (b : Bool) → row < length starts
      → get_or written row d ≡ written_row text row (get_or starts row b)
  written-at row d b below =
      get_or-written_from text 0 starts row d b below
      ∙ ap (λ r. written_row text r (get_or starts row b)) (by row)
    where
      by : (n : ℕ) → 0 + n ≡ n
      by n = omega arith

  -- a row that stands where another belongs
  pub strange-row : (row line : ℕ) (b : Bool) → row < length starts
      → take row written ≡ take row wanted
      → ¬ (slice_get wanted row ≡ Some (written_row text row (get_or starts row b)))
      → line ≡ row_line text row
      → BreaksShape text (written_rows text) (wanted_rows script) line
  strange-row row line b below same not is =
      let d : RowName = written_row text row b in
      let breaks : BreaksAt (λ zs. IsFront zs wanted) written row =
      breaks-front written wanted row d (let long = length-written_from text 0 starts in omega
      (arith, long, below)) same
      (λ next. not (next ∙ ap (λ x. Some x) (written-at row d b below))) in
      inl (
        row,
        subst (λ zs. BreaksAt (λ rows. IsFront rows (wanted_rows script)) zs row)
            written-are
            (subst (λ ws. BreaksAt (λ rows. IsFront rows ws) written row) wanted-are breaks),
        is,
      )

  -- rows are missing at the end
  pub missing-rows : (row line : ℕ) → row ≡ length starts → take row written ≡ take row wanted
      → length starts < length wanted
      → line ≡ text.marks.end → BreaksShape text (written_rows text) (wanted_rows script) line
  missing-rows row line whole-row so_far few is =
      let same : take (length starts) written ≡ take (length starts) wanted = subst
      (λ n. take n written ≡ take n wanted) whole-row so_far in
      let long : length written ≡ length starts = length-written_from text 0 starts in
      let whole : take (length starts) written ≡ written = take_all (length starts) written
      (omega (arith, long)) in
      let front : IsFront written wanted = subst (λ zs. IsFront zs wanted) whole
      (front-take written wanted (length starts) same) in
      inr (
        subst (λ zs. IsFront zs (wanted_rows script)) written-are
            (subst (IsFront written) wanted-are front),
        (λ e. let same-long : length written ≡ length wanted = ap length (written-are ∙ e
            ∙ sym wanted-are) in omega (arith, same-long, long, few)),
        is,
      )

  -- all rows are the wanted ones
  pub all-wanted : (row : ℕ) → row ≡ length starts → take row written ≡ take row wanted
      → length wanted ≤ length starts
      → written_rows text ≡ wanted_rows script
  all-wanted row whole so_far enough =
      let same : take (length starts) written ≡ take (length starts) wanted = subst
      (λ n. take n written ≡ take n wanted) whole so_far in
      let long : length written ≡ length starts = length-written_from text 0 starts in
      sym written-are ∙ sym (take_all (length starts) written (omega (arith, long))) ∙ same
      ∙ take_all (length starts) wanted enough ∙ wanted-are

  -- one row more is the wanted one
  pub more-wanted : (row : ℕ) (b : Bool) → row < length starts → take row written ≡ take row wanted
      → slice_get wanted row ≡ Some (written_row text row (get_or starts row b))
      → take (row + 1) written ≡ take (row + 1) wanted
  more-wanted row b below same is =
      let d : RowName = written_row text row b in
      let long : length written ≡ length starts = length-written_from text 0 starts in
      take_more_same written wanted row d (omega (arith, long, below))
      (slice_get_within wanted row (written_row text row (get_or starts row b)) is) same
      (written-at row d b below ∙ sym (get_or_from_slice_get wanted row
      (written_row text row (get_or starts row b)) d is))
