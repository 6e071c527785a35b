-- The line of a thread that comes next, by its place.
use Rattle.std.proofs.Common.{◌≡◌, ℕ, suc, zero, ◌+◌, ◌-◌, ◌<◌, ◌≤◌, List, [], ◌∷◌, length, map}
use Rattle.std.proofs.Common.{get_or, ap, sym, refl, ◌∙◌, arith}
use Rattle.std.specs.Prelude.{Option, Some, None, option_and_then, slice_get, zip, sum_by}
use Rattle.std.specs.List.{enumerate_from}
use Rattle.std.proofs.lemmas.List.Sums.{get_or-le-sum_by}
use Rattle.std.proofs.lemmas.Option.{slice_get-get_or, slice_get_within}
use Rattle.cal_script.specs.declared.journal.Journal.{Journal}
use Rattle.cal_script.specs.declared.journal.LineNote.{LineNote}
use Rattle.cal_script.specs.declared.journal.ThreadNote.{ThreadNote}
use Rattle.cal_script.specs.declared.script.Line.{Line}
use Rattle.cal_script.specs.declared.script.Script.{Script}
use Rattle.cal_steps.specs.Turning.{seen_at}
use Rattle.cal_world.specs.Progress.{turn_behind}
use Rattle.cal_world.specs.Turns.{turns_from, turns_of}
use Rattle.cal_world.specs.declared.turn.Turn.{Turn}

-- ---- what the line before had seen

seen-suc : (before : ℕ) (ns : List LineNote) (k : ℕ) (d : LineNote) → k < length ns
    → (get_or ns k d).seen ≡ seen_at before ns (suc k)
seen-suc before [] k d below = absurd (omega (arith, below))
seen-suc before (n ∷ ns) zero d below = refl
seen-suc before (n ∷ ns) (suc k) d below = seen-suc n.seen ns k d (omega (arith, below))

pub seen-back : (before : ℕ) (ns : List LineNote) (k : ℕ) (d : LineNote) → 0 < k → k ≤ length ns
    → (get_or ns (k - 1) d).seen ≡ seen_at before ns k
seen-back before ns zero d some within = absurd (omega (arith, some))
seen-back before ns (suc k) d some within =
    ap (λ i. (get_or ns i d).seen) (let e : suc k - 1 ≡ k = omega arith in e)
    ∙ seen-suc before ns k d (omega (arith, within))

-- ---- the line of a place

module _ (t : ℕ) where
  pub turn-some : (number before : ℕ) (ls : List Line) (ns : List LineNote) (k m : ℕ) (l : Line)
      (n : LineNote) → slice_get ls k ≡ Some l → slice_get ns k ≡ Some n → m ≡ number + k
      → slice_get (turns_from t number before (zip ls ns)) k ≡ Some (record {
        thread = t;
        number = m;
        line = l;
        note = n;
        before = seen_at before ns k;
      })
  turn-some number before [] ns k m l n line note count =
      absurd (let no : None ≡ Some l = line in cc)
  turn-some number before (x ∷ ls) [] k m l n line note count =
      absurd (let no : None ≡ Some n = note in cc)
  turn-some number before (x ∷ ls) (y ∷ ns) zero m l n line note count =
      let first : x ≡ l = (let e : Some x ≡ Some l = line in cc) in
      let second : y ≡ n = (let e : Some y ≡ Some n = note in cc) in
      let third : number ≡ m = omega (arith, count) in
      λ j. Some (record {
        thread = t;
        number = third j;
        line = first j;
        note = second j;
        before = before;
      })
  turn-some number before (x ∷ ls) (y ∷ ns) (suc k) m l n line note count =
      turn-some (number + 1) y.seen ls ns k m l n line note (omega (arith, count))

  pub turn-none_line : (number before : ℕ) (ls : List Line) (ns : List LineNote) (k : ℕ)
      → slice_get ls k ≡ None → slice_get (turns_from t number before (zip ls ns)) k ≡ None
  turn-none_line number before [] ns k none = refl
  turn-none_line number before (x ∷ ls) [] k none = refl
  turn-none_line number before (x ∷ ls) (y ∷ ns) zero none =
      absurd (let no : Some x ≡ None = none in cc)
  turn-none_line number before (x ∷ ls) (y ∷ ns) (suc k) none =
      turn-none_line (number + 1) y.seen ls ns k none

  pub turn-none_note : (number before : ℕ) (ls : List Line) (ns : List LineNote) (k : ℕ)
      → slice_get ns k ≡ None → slice_get (turns_from t number before (zip ls ns)) k ≡ None
  turn-none_note number before [] ns k none = refl
  turn-none_note number before (x ∷ ls) [] k none = refl
  turn-none_note number before (x ∷ ls) (y ∷ ns) zero none =
      absurd (let no : Some y ≡ None = none in cc)
  turn-none_note number before (x ∷ ls) (y ∷ ns) (suc k) none =
      turn-none_note (number + 1) y.seen ls ns k none

-- the line by what the one before had seen
pub before-is : (t m : ℕ) (l : Line) (n : LineNote) {seen other : ℕ} → seen ≡ other
    → ◌≡◌ {A = Option Turn}
    (Some (record { thread = t; number = m; line = l; note = n; before = seen }))
    (Some (record { thread = t; number = m; line = l; note = n; before = other }))
before-is t m l n same =
    λ j. Some (record { thread = t; number = m; line = l; note = n; before = same j })

-- ---- the lines of a thread

abbrev pub listed : ℕ → List (List Line) → List ThreadNote → List (List Turn)
listed k ls ns = map turns_of (enumerate_from k (zip ls ns))

pub listed-some : (k i m : ℕ) (ls : List (List Line)) (ns : List ThreadNote) (l : List Line)
    (n : ThreadNote) → slice_get ls i ≡ Some l → slice_get ns i ≡ Some n → m ≡ k + i
    → slice_get (listed k ls ns) i ≡ Some (turns_from m 1 0 (zip l n.lines))
listed-some k i m [] ns l n lines note count = absurd (let no : None ≡ Some l = lines in cc)
listed-some k i m (x ∷ ls) [] l n lines note count = absurd (let no : None ≡ Some n = note in cc)
listed-some k zero m (x ∷ ls) (y ∷ ns) l n lines note count =
    let first : x ≡ l = (let e : Some x ≡ Some l = lines in cc) in
    let second : y ≡ n = (let e : Some y ≡ Some n = note in cc) in
    let third : k ≡ m = omega (arith, count) in
    λ j. Some (turns_from (third j) 1 0 (zip (first j) (second j).lines))
listed-some k (suc i) m (x ∷ ls) (y ∷ ns) l n lines note count =
    listed-some (k + 1) i m ls ns l n lines note (omega (arith, count))

pub listed-none_lines : (k i : ℕ) (ls : List (List Line)) (ns : List ThreadNote)
    → slice_get ls i ≡ None → slice_get (listed k ls ns) i ≡ None
listed-none_lines k i [] ns none = refl
listed-none_lines k i (x ∷ ls) [] none = refl
listed-none_lines k zero (x ∷ ls) (y ∷ ns) none = absurd (let no : Some x ≡ None = none in cc)
listed-none_lines k (suc i) (x ∷ ls) (y ∷ ns) none = listed-none_lines (k + 1) i ls ns none

pub listed-none_note : (k i : ℕ) (ls : List (List Line)) (ns : List ThreadNote)
    → slice_get ns i ≡ None → slice_get (listed k ls ns) i ≡ None
listed-none_note k i [] ns none = refl
listed-none_note k i (x ∷ ls) [] none = refl
listed-none_note k zero (x ∷ ls) (y ∷ ns) none = absurd (let no : Some y ≡ None = none in cc)
listed-none_note k (suc i) (x ∷ ls) (y ∷ ns) none = listed-none_note (k + 1) i ls ns none

-- a thread has few lines
pub few-lines : (ls : List (List Line)) (i : ℕ) (l : List Line) → slice_get ls i ≡ Some l
    → length l ≤ sum_by length ls
few-lines ls i l is =
    let below = slice_get_within ls i l is in
    let most = get_or-le-sum_by length ls i l below in
    let same : get_or ls i l ≡ l = (let e : Some (get_or ls i l) ≡ Some l =
    sym (slice_get-get_or ls i l below) ∙ is in cc) in
    let whole = ap length same in
    omega (arith, most, whole)

-- the line of a thread behind so many
pub behind-is : (script : Script) (journal : Journal) (t k : ℕ) (o : Option (List Turn))
    → slice_get (listed 0 script.threads journal.threads) t ≡ o
    → turn_behind script journal t k ≡ option_and_then (λ (ts : List Turn). slice_get ts k) o
behind-is script journal t k o is =
    ap (option_and_then (λ (ts : List Turn). slice_get ts k)) is
