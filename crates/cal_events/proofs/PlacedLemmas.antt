-- The line of a place of the history, and which path it opens.
use Rattle.std.proofs.Common.{◌≡◌, ℕ, suc, zero, ◌+◌, ◌-◌, ◌<◌, Bool, true, false, ◌&&◌, List, []}
use Rattle.std.proofs.Common.{◌∷◌, length, map, get_or, ap, subst, sym, refl, ◌∙◌, arith, ⊎_elim}
use Rattle.std.proofs.Common.{if◌then◌else◌, ◌==◌}
use Rattle.std.specs.Prelude.{Option, Some, None, option_and_then, slice_get, zip, take}
use Rattle.std.specs.List.{enumerate_from}
use Rattle.std.proofs.lemmas.Bool.{cases_lt, eqb-false}
use Rattle.std.proofs.lemmas.List.{get_or_past}
use Rattle.std.proofs.lemmas.Option.{slice_get-get_or, slice_get_within}
use Rattle.cal_events.proofs.BoardLemmas.{opened, opens-line, opens_on}
use Rattle.cal_events.proofs.NextLemmas.{Rules, next-of, noted_with}
use Rattle.cal_events.specs.Keeping.{note_of, noted}
use Rattle.cal_events.specs.Nodes.{own_path, path_if}
use Rattle.cal_run.proofs.NumberLemmas.{all_zip-at}
use Rattle.cal_run.specs.History.{placed_operation, process_board}
use Rattle.cal_run.specs.Lawful.{IsKnown, Lawful, SeesOwn, names_process_line}
use Rattle.cal_run.specs.Lines.{is_process_line, is_such, line_at, operation_of}
use Rattle.cal_run.specs.Runs.{state_after_lines}
use Rattle.cal_run.specs.Steps.{ThreadState, acted_on, at_start}
use Rattle.cal_script.specs.declared.journal.Journal.{Journal}
use Rattle.cal_script.specs.declared.journal.LineNote.{LineNote}
use Rattle.cal_script.specs.declared.journal.Placed.{Placed}
use Rattle.cal_script.specs.declared.journal.Reply.TheVariants as reply
use Rattle.cal_script.specs.declared.journal.ThreadNote.{ThreadNote}
use Rattle.cal_script.specs.declared.script.Line.{Line}
use Rattle.cal_script.specs.declared.script.Script.{Script}
use Rattle.cal_world.proofs.PlaceLemmas.{NumbersRise, one-place, process-rise}
use Rattle.cal_world.proofs.TurnLemmas.{notes-long}
use Rattle.cal_world.specs.Events.{needs_node, needs_node_if, note_at, opens_path, placed_node}
use Rattle.cal_world.specs.Progress.{turn_behind}
use Rattle.cal_world.specs.Turns.{turns_by_thread, turns_from, turns_of}
use Rattle.cal_world.specs.declared.turn.Turn.{Turn}

-- ---- lists

zip-get : {A B : Type 0} (xs : List A) (ys : List B) (i : ℕ) (a : A) (b : B)
    → slice_get xs i ≡ Some a → slice_get ys i ≡ Some b → slice_get (zip xs ys) i ≡ Some (a, b)
zip-get [] ys i a b x y = absurd (let no : None ≡ Some a = x in cc)
zip-get (c ∷ xs) [] i a b x y = absurd (let no : None ≡ Some b = y in cc)
zip-get (c ∷ xs) (d ∷ ys) zero a b x y =
    let one : c ≡ a = (let e : Some c ≡ Some a = x in cc) in
    let two : d ≡ b = (let e : Some d ≡ Some b = y in cc) in
    λ j. Some (one j, two j)
zip-get (c ∷ xs) (d ∷ ys) (suc i) a b x y = zip-get xs ys i a b x y

map-get : {A B : Type 0} (f : ℕ × A → B) (k : ℕ) (xs : List A) (i : ℕ) (a : A)
    → slice_get xs i ≡ Some a → slice_get (map f (enumerate_from k xs)) i ≡ Some (f (k + i, a))
map-get f k [] i a is = absurd (let no : None ≡ Some a = is in cc)
map-get f k (x ∷ xs) zero a is =
    let same : x ≡ a = (let e : Some x ≡ Some a = is in cc) in
    let none : k ≡ k + 0 = omega arith in
    λ j. Some (f (none j, same j))
map-get f k (x ∷ xs) (suc i) a is =
    map-get f (k + 1) xs i a is
    ∙ ap (λ m. Some (f (m, a))) (let e : k + 1 + i ≡ k + suc i = omega arith in e)

turn-of : (t number before : ℕ) (ls : List (Line × LineNote)) (n : ℕ) (l : Line × LineNote)
    → slice_get ls n ≡ Some l
    → (x : Turn) × (slice_get (turns_from t number before ls) n ≡ Some x) × (x.line ≡ l.0)
    × (x.note ≡ l.1)
turn-of t number before [] n l is = absurd (let no : None ≡ Some l = is in cc)
turn-of t number before (k ∷ ls) zero l is =
    let same : k ≡ l = (let e : Some k ≡ Some l = is in cc) in (
      record { thread = t; number = number; line = k.0; note = k.1; before = before },
      refl,
      (λ j. (same j).0),
      (λ j. (same j).1),
    )
turn-of t number before (k ∷ ls) (suc n) l is = turn-of t (number + 1) k.1.seen ls n l is

-- ---- the line of a place

module _ (script : Script) (journal : Journal) (lawful : Lawful script journal) where
  -- the lines of a thread as turns
  pub list-of : (t : ℕ) → t < length script.threads
      → slice_get (turns_by_thread script journal) t
      ≡ Some (turns_from t 1 0 (noted script journal t))
  list-of t inside =
      let no_note : ThreadNote = record { start = None; lines = [] } in
      let many = notes-long script journal lawful.shape in
      map-get turns_of 0 (zip script.threads journal.threads) t
      (get_or script.threads t [], note_of script journal t)
      (zip-get script.threads journal.threads t (get_or script.threads t [])
      (note_of script journal t) (slice_get-get_or script.threads t [] inside)
      (slice_get-get_or journal.threads t no_note (omega (arith, inside, many))))
      ∙ ap (λ u. Some (turns_of (u, (get_or script.threads t [], note_of script journal t))))
      (let e : 0 + t ≡ t = omega arith in e)

  -- as many notes as lines
  pub lines-noted : (t : ℕ) → t < length script.threads
      → length (note_of script journal t).lines ≡ length (get_or script.threads t [])
  lines-noted t inside =
      all_zip-at (λ (thread : List Line) (n : ThreadNote). length n.lines ≡ length thread)
      script.threads journal.threads t [] (record { start = None; lines = [] }) lawful.shape inside

  -- a line of the script that the history has at a place
  pub record PlacedTurn (k : ℕ) (p : Placed) : Type 0 where
    pub turn : Turn
    pub within : p.thread < length script.threads
    pub next : turn_behind script journal p.thread (p.line - 1) ≡ Some turn
    pub line : line_at script p.thread p.line ≡ Some turn.line
    pub note : note_at journal.threads p ≡ Some turn.note
    pub shared : is_process_line script turn.line ≡ true
    pub seen : turn.note.seen ≡ k + 1

  known-at : (p : Placed) → IsKnown script p
      → (l : Line) × (line_at script p.thread p.line ≡ Some l) × (is_process_line script l ≡ true)
  known-at p known = by (line_at script p.thread p.line) refl known
    where
      by : (o : Option Line) → line_at script p.thread p.line ≡ o
          → names_process_line script o ≡ true
          → (l : Line) × (line_at script p.thread p.line ≡ Some l)
          × (is_process_line script l ≡ true)
      by None e is = absurd (let no : false ≡ true = is in cc)
      by (Some l) e is = (l, e, is)

  line-in : (p : Placed) (l : Line) → line_at script p.thread p.line ≡ Some l
      → (0 < p.line) × (slice_get (get_or script.threads p.thread []) (p.line - 1) ≡ Some l)
  line-in p l is = by (p.line == 0) refl is
    where
      by : (b : Bool) → (p.line == 0) ≡ b
          → (if b then None else slice_get (get_or script.threads p.thread []) (p.line - 1))
          ≡ Some l
          → (0 < p.line) × (slice_get (get_or script.threads p.thread []) (p.line - 1) ≡ Some l)
      by true e there = absurd (let no : None ≡ Some l = there in cc)
      by false e there = (omega (arith, eqb-false p.line 0 e), there)

  pub placed-turn : (k : ℕ) (d : Placed) → k < length journal.ops
      → PlacedTurn k (get_or journal.ops k d)
  placed-turn k d below =
      let p : Placed = get_or journal.ops k d in
      let t = p.thread in
      let known = known-at p (lawful.known k d below) in
      let l : Line = known.0 in
      let at = line-in p l known.1 in
      let ls : List Line = get_or script.threads t [] in
      let inside : t < length script.threads = ⊎_elim (λ less. less)
      (λ past. absurd (let none = ap length (get_or_past script.threads t [] past) in
      let some = slice_get_within ls (p.line - 1) l at.1 in
      omega (arith, none, some)))
      (cases_lt t (length script.threads)) in
      let note : ThreadNote = note_of script journal t in
      let long = lines-noted t inside in
      let early : p.line - 1 < length ls = slice_get_within ls (p.line - 1) l at.1 in
      let no : LineNote = get_or note.lines (p.line - 1) (get_or note.lines 0
      (record { reply = reply.Done; seen = 0; reading = None })) in
      let noted_there : slice_get note.lines (p.line - 1) ≡ Some no =
      slice_get-get_or note.lines (p.line - 1) _ (omega (arith, early, long)) in
      let found = turn-of t 1 0 (noted script journal t) (p.line - 1) (l, no)
      (zip-get ls note.lines (p.line - 1) l no at.1 noted_there) in
      let x : Turn = found.0 in
      let next : turn_behind script journal t (p.line - 1) ≡ Some x =
      ap (option_and_then (λ (ts : List Turn). slice_get ts (p.line - 1))) (list-of t inside)
      ∙ found.1 in
      let line = next-of script journal lawful t (p.line - 1) x next in
      let shared : is_process_line script x.line ≡ true =
      ap (is_process_line script) found.2 ∙ known.2 in
      let own : SeesOwn script journal (noted_with x (state_after_lines script journal.ops at_start
      (take (p.line - 1) (noted script journal t)))) = line.rule.own shared in
      let some = own.some in
      let first = at.0 in
      let later = line.number_is in
      let number : x.number ≡ p.line = omega (arith, later, first) in
      let same : record { thread = x.thread; line = x.number } ≡ p =
      λ j. record { thread = line.thread j; line = number j } in
      let one : x.note.seen - 1 ≡ k =
      one-place t p refl 1 journal.ops (x.note.seen - 1) k
      (subst (NumbersRise 1) (sym (lawful.order t ls (slice_get-get_or script.threads t [] inside)))
      (process-rise script 1 ls))
      (own.own ∙ ap (λ (q : Placed). Some q) same)
      (slice_get-get_or journal.ops k d below) in
      record {
        turn = x;
        within = inside;
        next = next;
        line = known.1 ∙ ap (λ (m : Line). Some m) (sym found.2);
        note = ap (option_and_then (λ (n : ThreadNote). slice_get n.lines (p.line - 1)))
            (slice_get-get_or journal.threads t (record { start = None; lines = [] })
            (let many = notes-long script journal lawful.shape in omega (arith, inside, many)))
            ∙ noted_there ∙ ap (λ (m : LineNote). Some m) (sym found.3);
        shared = shared;
        seen = omega (arith, one, some);
      }

  -- ---- which path a line opens

  -- a line needs a node where it opens a path on the board on which it acts
  pub needs-opens : (x : Turn) (state : ThreadState) → Rules script journal (noted_with x state)
      → needs_node script x.line x.note
      ≡ opens_on script (acted_on script journal.ops x.line x.note state) (operation_of x.line)
  needs-opens x state rule =
      ap (λ b. b && is_such (opens_path script) (operation_of x.line)) rule.accepted
      ∙ opens-line script (acted_on script journal.ops x.line x.note state) x.line

  pub own-opened : (x : Turn) (state : ThreadState) → Rules script journal (noted_with x state)
      → own_path script journal journal.ops x state
      ≡ opened script (acted_on script journal.ops x.line x.note state) (operation_of x.line)
  own-opened x state rule =
      ap (λ n. path_if script n (acted_on script journal.ops x.line x.note state)
      (operation_of x.line)) (needs-opens x state rule)

  -- and so does the operation of a place
  pub placed-needs : (k : ℕ) (d : Placed) → k < length journal.ops
      → placed_node script journal (get_or journal.ops k d)
      ≡ opens_on script (process_board script journal.ops k)
      (placed_operation script (get_or journal.ops k d))
  placed-needs k d below =
      let p : Placed = get_or journal.ops k d in
      let found = placed-turn k d below in
      let x : Turn = found.turn in
      let state : ThreadState = state_after_lines script journal.ops at_start
      (take (p.line - 1) (noted script journal p.thread)) in
      let rule : Rules script journal (noted_with x state) =
      (next-of script journal lawful p.thread (p.line - 1) x found.next).rule in
      let seen = found.seen in
      let before : x.note.seen - 1 ≡ k = omega (arith, seen) in
      (λ j. needs_node_if script (found.line j) (found.note j))
      ∙ needs-opens x state rule
      ∙ ap (λ b. opens_on script (if b then process_board script journal.ops
      (if b then x.note.seen - 1 else x.note.seen) else state.board) (operation_of x.line))
      found.shared
      ∙ ap (λ n. opens_on script (process_board script journal.ops n) (operation_of x.line)) before
      ∙ ap (λ o. opens_on script (process_board script journal.ops k)
      (option_and_then operation_of o)) (sym found.line)
