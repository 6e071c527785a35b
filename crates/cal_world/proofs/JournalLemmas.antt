-- What a lawful journal says of its lines, thread by thread.
use Rattle.std.proofs.Common.{◌≡◌, ℕ, suc, zero, ◌+◌, ◌-◌, ◌*◌, ◌<◌, ◌≤◌, Bool, true, false, List}
use Rattle.std.proofs.Common.{[]}
use Rattle.std.proofs.Common.{◌∷◌, ◌++◌, length, map, get_or, ap, subst, sym, refl, ◌∙◌, arith}
use Rattle.std.proofs.Common.{cond, if◌then◌else◌, append_assoc, ⊎_elim}
use Rattle.std.specs.Prelude.{Option, Some, None, filter, flat_map, slice_get, zip, ◌==◌}
use Rattle.std.specs.List.{All, enumerate_from}
use Rattle.std.proofs.lemmas.Bool.{cases_lt, eqb-false, lt-ltb}
use Rattle.std.proofs.lemmas.List.{get_or_past, length_push}
use Rattle.std.proofs.lemmas.List.Folds.{flat_map-map}
use Rattle.std.proofs.lemmas.Option.{slice_get-get_or, slice_get_within}
use Rattle.cal_run.proofs.LawLemmas.{all-back, all-front, all-rest, lawful-read}
use Rattle.cal_run.proofs.NumberLemmas.{all_zip-at}
use Rattle.cal_run.specs.Lawful.{IsKnown, Lawful, NotedLine, SeenOwn, names_process_line}
use Rattle.cal_run.specs.Lawful.{noted_from, noted_of}
use Rattle.cal_run.specs.Lines.{is_process_line}
use Rattle.cal_run.specs.Seeing.{SeesInOrder}
use Rattle.cal_run.specs.Steps.{ThreadState, at_start, state_after}
use Rattle.cal_script.specs.declared.journal.Journal.{Journal}
use Rattle.cal_script.specs.declared.journal.LineNote.{LineNote}
use Rattle.cal_script.specs.declared.journal.Placed.{Placed}
use Rattle.cal_script.specs.declared.journal.ThreadNote.{ThreadNote}
use Rattle.cal_script.specs.declared.script.Line.{Line}
use Rattle.cal_script.specs.declared.script.Script.{Script}
use Rattle.cal_world.proofs.EventLemmas.{seam}
use Rattle.cal_world.proofs.HistoryLemmas.{HasRow}
use Rattle.cal_world.proofs.OrderLemmas.{AreOf, AreThreads, Rises, all_of, below, counts_below}
use Rattle.cal_world.proofs.OrderLemmas.{key, key_if, keyed, none-below, seen-key}
use Rattle.cal_world.proofs.PlaceLemmas.{ArePlaced, NumbersRise, OwnPlaces, none-of_all, one-of_all}
use Rattle.cal_world.proofs.PlaceLemmas.{one-place, own-at, placed-at, process-rise, turn-at}
use Rattle.cal_world.proofs.TurnLemmas.{notes-long}
use Rattle.cal_world.specs.Progress.{behind}
use Rattle.cal_world.specs.Turns.{has_seen, turns, turns_by_thread, turns_from, turns_of}
use Rattle.cal_world.specs.declared.turn.Turn.{Turn}

no_note : ThreadNote
no_note = record { start = None; lines = [] }

module _ (script : Script) (journal : Journal) where
  -- ---- the lines of a thread

  of-from : (t n before : ℕ) (ls : List (Line × LineNote))
      → AreOf t (turns_from t n before ls)
  of-from t n before [] = tt
  of-from t n before (l ∷ ls) = (refl, of-from t (n + 1) l.1.seen ls)

  own-from : (t n before : ℕ) (state : ThreadState) (ls : List (Line × LineNote))
      → All (SeenOwn script journal) (noted_from script journal.ops t n before state ls)
      → OwnPlaces script journal.ops (turns_from t n before ls)
  own-from t n before state [] all = tt
  own-from t n before state (l ∷ ls) all =
      let noted : NotedLine = record {
        thread = t;
        number = n;
        line = l.0;
        note = l.1;
        before = before;
        state = state;
      } in
      let here : SeenOwn script journal noted = all 0 noted (omega arith) in
      let after = state_after script journal.ops l.0 l.1 state in (
        (λ is. record { some = (here is).some; place = (here is).own }),
        own-from t (n + 1) l.1.seen after ls
            (all-rest (SeenOwn script journal) noted
            (noted_from script journal.ops t (n + 1) l.1.seen after ls) all),
      )

  -- a line's key is no less than that of a line before it
  key-rises : (k before seen : ℕ) (b : Bool) → k ≤ before * 2 + 1 → before ≤ seen
      → (b ≡ true → before < seen)
      → (k ≤ key_if b seen) × (b ≡ true → k < key_if b seen) × (key_if b seen ≤ seen * 2 + 1)
  key-rises k before seen true less rises own =
      let up = own refl in
      (omega (arith, less, up), (λ is. omega (arith, less, up)), omega arith)
  key-rises k before seen false less rises own =
      (omega (arith, less, rises), (λ is. absurd (let no : false ≡ true = is in cc)), omega arith)

  rises-from : (t n before k : ℕ) (ls : List (Line × LineNote)) → k ≤ before * 2 + 1
      → SeesInOrder script journal.ops before ls → Rises script k (turns_from t n before ls)
  rises-from t n before k [] less order = tt
  rises-from t n before k (l ∷ ls) less order =
      let b = is_process_line script l.0 in
      let may = order.0 in
      let up = key-rises k before l.1.seen b less may.rises may.own in
      (up.0, up.1, rises-from t (n + 1) l.1.seen (key_if b l.1.seen) ls up.2 order.1)

  key-within : (seen n : ℕ) (b : Bool) → seen ≤ n → key_if b seen < (n + 1) * 2
  key-within seen n true less = omega (arith, less)
  key-within seen n false less = omega (arith, less)

  -- all lines are below the last key
  below-from : (t n before : ℕ) (ls : List (Line × LineNote))
      → SeesInOrder script journal.ops before ls
      → below script ((length journal.ops + 1) * 2) (turns_from t n before ls)
      ≡ turns_from t n before ls
  below-from t n before [] order = refl
  below-from t n before (l ∷ ls) order =
      let last = (length journal.ops + 1) * 2 in
      let x : Turn = record { thread = t; number = n; line = l.0; note = l.1; before = before } in
      let rest = turns_from t (n + 1) l.1.seen ls in
      let may = order.0 in
      ap (λ b. cond b (x ∷ below script last rest) (below script last rest))
      (lt-ltb (key script x) last (key-within l.1.seen (length journal.ops)
      (is_process_line script l.0) may.within))
      ∙ ap (λ ys. x ∷ ys) (below-from t (n + 1) l.1.seen ls order.1)

  -- ---- all threads

  -- the lines of threads from one on
  abbrev pub lists_from : ℕ → List (List Line × ThreadNote) → List (List Turn)
  lists_from k ps = map turns_of (enumerate_from k ps)

  abbrev InOrder : List Line × ThreadNote → Type 0
  InOrder p = SeesInOrder script journal.ops 0 (zip p.0 p.1.lines)

  threads-are : (k : ℕ) (pre : List (List Turn)) (ps : List (List Line × ThreadNote))
      → length pre ≡ k → turns_by_thread script journal ≡ pre ++ lists_from k ps → All InOrder ps
      → AreThreads script journal k (lists_from k ps)
  threads-are k pre [] long whole order = tt
  threads-are k pre (p ∷ ps) long whole order =
      let xs : List Turn = turns_of (k, p) in
      let here : InOrder p = order 0 p (omega arith) in (
        ap (λ (l : List (List Turn)). slice_get l k) whole
            ∙ ap (slice_get (pre ++ xs ∷ lists_from (k + 1) ps)) (sym long)
            ∙ seam pre xs (lists_from (k + 1) ps),
        rises-from k 1 0 0 (zip p.0 p.1.lines) (omega arith) here,
        of-from k 1 0 (zip p.0 p.1.lines),
        threads-are (k + 1) (pre ++ xs ∷ []) ps (length_push pre xs ∙ ap (λ i. i + 1) long)
            (whole ∙ sym (append_assoc pre (xs ∷ []) (lists_from (k + 1) ps)))
            (all-rest InOrder p ps order),
      )

  places-are : (k : ℕ) (ps : List (List Line × ThreadNote)) → All InOrder ps
      → All (SeenOwn script journal)
      (flat_map (noted_of script journal.ops) (enumerate_from k ps))
      → ArePlaced script journal.ops k (lists_from k ps)
  places-are k [] order own = tt
  places-are k (p ∷ ps) order own =
      let one : List NotedLine = noted_of script journal.ops (k, p) in
      let more : List NotedLine =
      flat_map (noted_of script journal.ops) (enumerate_from (k + 1) ps) in
      let here : InOrder p = order 0 p (omega arith) in (
        rises-from k 1 0 0 (zip p.0 p.1.lines) (omega arith) here,
        of-from k 1 0 (zip p.0 p.1.lines),
        own-from k 1 0 at_start (zip p.0 p.1.lines)
            (all-front (SeenOwn script journal) one more own),
        places-are (k + 1) ps (all-rest InOrder p ps order)
            (all-back (SeenOwn script journal) one more own),
      )

  -- no line is below the first key, and each is below the last one
  pub starts-are : (k : ℕ) (ps : List (List Line × ThreadNote)) → All InOrder ps
      → map behind (counts_below script 0 (lists_from k ps))
      ≡ map (λ (ts : List Turn). behind 0) (lists_from k ps)
  starts-are k [] order = refl
  starts-are k (p ∷ ps) order =
      let here : InOrder p = order 0 p (omega arith) in
      let none = none-below script 0 0 (turns_of (k, p)) (omega arith)
      (rises-from k 1 0 0 (zip p.0 p.1.lines) (omega arith) here) in
      λ j. behind (length (none j))
      ∷ starts-are (k + 1) ps (all-rest InOrder p ps order) j

  pub ends-are : (k : ℕ) (ps : List (List Line × ThreadNote)) → All InOrder ps
      → map behind (counts_below script ((length journal.ops + 1) * 2) (lists_from k ps))
      ≡ map (λ (ts : List Turn). behind (length ts)) (lists_from k ps)
  ends-are k [] order = refl
  ends-are k (p ∷ ps) order =
      let here : InOrder p = order 0 p (omega arith) in
      let all = below-from k 1 0 (zip p.0 p.1.lines) here in
      λ j. behind (length (all j)) ∷ ends-are (k + 1) ps (all-rest InOrder p ps order) j

-- the lines of the thread of a place
list-at : (k i : ℕ) (threads : List (List Line)) (notes : List ThreadNote) → i < length threads
    → length notes ≡ length threads
    → slice_get (map turns_of (enumerate_from k (zip threads notes))) i
    ≡ Some (turns_of (k + i, (get_or threads i [], get_or notes i no_note)))
list-at k i [] notes below long = absurd (omega (arith, below))
list-at k i (ls ∷ threads) [] below long = absurd (omega (arith, long))
list-at k zero (ls ∷ threads) (n ∷ notes) below long =
    ap (λ m. Some (turns_of (m, (ls, n)))) (let e : k ≡ k + 0 = omega arith in e)
list-at k (suc i) (ls ∷ threads) (n ∷ notes) below long =
    list-at (k + 1) i threads notes (omega (arith, below)) (omega (arith, long))
    ∙ ap (λ m. Some (turns_of (m, (get_or threads i [], get_or notes i no_note))))
    (let e : k + 1 + i ≡ k + suc i = omega arith in e)

-- a known operation is a line of a thread
pub record KnownLine (script : Script) (p : Placed) : Type 0 where
  pub line : Line
  pub some : 0 < p.line
  pub within : p.thread < length script.threads
  pub there : slice_get (get_or script.threads p.thread []) (p.line - 1) ≡ Some line
  pub shared : is_process_line script line ≡ true

known-line : (script : Script) (p : Placed) → IsKnown script p → KnownLine script p
known-line script p known = by (p.line == 0) refl known
  where
    found : (o : Option Line) → slice_get (get_or script.threads p.thread []) (p.line - 1) ≡ o
        → 0 < p.line
        → names_process_line script o ≡ true → KnownLine script p
    found None e some is = absurd (let no : false ≡ true = is in cc)
    found (Some l) e some is = record {
      line = l;
      some = some;
      within = ⊎_elim (λ less. less)
          (λ past. absurd (let none = ap length (get_or_past script.threads p.thread [] past) in
          let inside = slice_get_within (get_or script.threads p.thread []) (p.line - 1) l e in
          omega (arith, none, inside)))
          (cases_lt p.thread (length script.threads));
      there = e;
      shared = is;
    }

    by : (b : Bool) → (p.line == 0) ≡ b
        → names_process_line script (if b then None
        else slice_get (get_or script.threads p.thread []) (p.line - 1)) ≡ true
        → KnownLine script p
    by true e is = absurd (let no : false ≡ true = is in cc)
    by false e is = found (slice_get (get_or script.threads p.thread []) (p.line - 1)) refl
        (omega (arith, eqb-false p.line 0 e)) is

module _ (script : Script) (journal : Journal) (lawful : Lawful script journal) where
  pub lists-are : AreThreads script journal 0 (turns_by_thread script journal)
  lists-are = threads-are script journal 0 [] (zip script.threads journal.threads) refl refl
      (lawful-read script journal lawful).order

  pub are-placed : ArePlaced script journal.ops 0 (turns_by_thread script journal)
  are-placed = places-are script journal 0 (zip script.threads journal.threads)
      (lawful-read script journal lawful).order lawful.own

  pub all-turns : turns script journal ≡ all_of (turns_by_thread script journal)
  all-turns = sym (flat_map-map (λ (xs : List Turn). xs) turns_of
      (enumerate_from 0 (zip script.threads journal.threads)))

  seen-rows : (s : ℕ) → filter (has_seen script true s) (turns script journal)
      ≡ keyed script (s * 2) (all_of (turns_by_thread script journal))
  seen-rows s = ap (filter (has_seen script true s)) all-turns
      ∙ (λ j. filter (λ x. seen-key script true s x j)
      (all_of (turns_by_thread script journal)))

  pub no-row : filter (has_seen script true 0) (turns script journal) ≡ []
  no-row = seen-rows 0
      ∙ none-of_all script journal.ops 0 (turns_by_thread script journal) are-placed

  pub has-row : (s : ℕ) → 0 < s → s ≤ length journal.ops
      → HasRow script journal journal.ops (turns script journal) s
  has-row s some less =
      let ops = journal.ops in
      let d : Placed = record { thread = 0; line = 0 } in
      let p : Placed = get_or ops (s - 1) d in
      let below : s - 1 < length ops = omega (arith, some, less) in
      let is : slice_get ops (s - 1) ≡ Some p = slice_get-get_or ops (s - 1) d below in
      let known = known-line script p (lawful.known (s - 1) d below) in
      let t = p.thread in
      let ls : List Line = get_or script.threads t [] in
      let note : ThreadNote = get_or journal.threads t no_note in
      let many = notes-long script journal lawful.shape in
      let ns : List LineNote = note.lines in
      let long : length ns ≡ length ls =
      all_zip-at (λ (thread : List Line) (n : ThreadNote). length n.lines ≡ length thread)
      script.threads journal.threads t [] no_note lawful.shape known.within in
      let all : List Turn = turns_of (t, (ls, note)) in
      let list : slice_get (turns_by_thread script journal) t ≡ Some all =
      list-at 0 t script.threads journal.threads known.within many
      ∙ ap (λ u. Some (turns_of (u, (ls, note)))) (let e : 0 + t ≡ t = omega arith in e) in
      let found = turn-at t 1 0 (p.line - 1) ls ns known.line known.there long in
      let x : Turn = found.turn in
      let shared : is_process_line script x.line ≡ true =
      ap (is_process_line script) found.line ∙ known.shared in
      let place = own-at script ops (p.line - 1) all x
      (placed-at script ops 0 t (turns_by_thread script journal) all are-placed list)
      found.there shared in
      let number : x.number ≡ p.line =
      (let n = found.number in let first = known.some in omega (arith, n, first)) in
      let same : record { thread = x.thread; line = x.number } ≡ p =
      λ j. record { thread = found.thread j; line = number j } in
      let there : slice_get ops (x.note.seen - 1) ≡ Some p =
      place.place ∙ ap (λ (q : Placed). Some q) same in
      let one : x.note.seen - 1 ≡ s - 1 =
      one-place t p refl 1 ops (x.note.seen - 1) (s - 1)
      (subst (NumbersRise 1) (sym (lawful.order t ls
      (slice_get-get_or script.threads t [] known.within))) (process-rise script 1 ls)) there is in
      let first = place.some in
      let seen : x.note.seen ≡ s = omega (arith, one, first, some) in
      let even : key script x ≡ s * 2 =
      ap (λ b. key_if b x.note.seen) shared ∙ ap (λ n. n * 2) seen in
      record {
        turn = x;
        only = seen-rows s
            ∙ one-of_all script ops s 0 t p (turns_by_thread script journal) all (p.line - 1) x is
            (omega arith) are-placed list found.there even;
        shared = shared;
        seen = seen;
        placed = is ∙ ap (λ (q : Placed). Some q) (sym same);
      }
