-- Behind the events of the schedule the world is that of the whole journal.
use Rattle.std.proofs.Common.{◌≡◌, ℕ, suc, zero, ◌+◌, ◌-◌, ◌<◌, ◌≤◌, Bool, true, false, List, []}
use Rattle.std.proofs.Common.{◌∷◌, ◌++◌, length, map, take, get_or, ap, subst, sym, refl, ◌∙◌}
use Rattle.std.proofs.Common.{arith, Contains}
use Rattle.std.specs.Prelude.{Option, Some, None, flat_map, slice_get, zip}
use Rattle.std.specs.List.{enumerate_from}
use Rattle.std.specs.Ordering.{eq_by_cmp}
use Rattle.std.specs.Set.{is_member}
use Rattle.std.proofs.lemmas.List.{get_or-map, get_or_default, length-map, nil_from_length}
use Rattle.std.proofs.lemmas.List.{same_lists, take_all}
use Rattle.std.proofs.lemmas.List.Elements.{All-append, All-contains, All-nil}
use Rattle.std.proofs.lemmas.Map.Made.{length-from_keys}
use Rattle.std.proofs.lemmas.Map.Views.{Contains-from_any, list_any-from_Contains}
use Rattle.std.proofs.lemmas.Option.{get_or_from_slice_get}
use Rattle.cal_board.specs.Blackboard.{nothing_open}
use Rattle.cal_events.proofs.BoardLemmas.{Path}
use Rattle.cal_events.proofs.HeldLemmas.{own-all}
use Rattle.cal_events.proofs.NextLemmas.{next-of}
use Rattle.cal_events.proofs.PlacedLemmas.{lines-noted, list-of, placed-turn}
use Rattle.cal_events.proofs.StartLemmas.{lists-long, world-events}
use Rattle.cal_events.proofs.ThreadLemmas.{done}
use Rattle.cal_events.proofs.WalkLemmas.{own_of}
use Rattle.cal_events.proofs.WorldLemmas.{IsWorld, progress-behind}
use Rattle.cal_events.specs.Effects.{world_behind}
use Rattle.cal_events.specs.Keeping.{EndsJournal, HasPaths, booked_in, note_of, noted, seen_from}
use Rattle.cal_events.specs.Keeping.{taken_on, traced_in}
use Rattle.cal_events.specs.Worlds.{ThreadWorld, World, book_in, given_by, held_by, no_thread}
use Rattle.cal_events.specs.Worlds.{thread_in, world_at_start}
use Rattle.cal_run.proofs.LawLemmas.{lawful-read}
use Rattle.cal_run.specs.Lawful.{Lawful}
use Rattle.cal_run.specs.Paths.{held_by_process, held_by_thread, held_from, held_paths, nodes}
use Rattle.cal_run.specs.Runs.{snapshots, taken_by_thread}
use Rattle.cal_run.specs.Seeing.{SeesInOrder}
use Rattle.cal_run.specs.declared.operation.Operation.{Operation}
use Rattle.cal_script.specs.declared.journal.Journal.{Journal}
use Rattle.cal_script.specs.declared.journal.LineNote.{LineNote}
use Rattle.cal_script.specs.declared.journal.Placed.{Placed}
use Rattle.cal_script.specs.declared.journal.ThreadNote.{ThreadNote}
use Rattle.cal_script.specs.declared.script.Channel.{Channel}
use Rattle.cal_script.specs.declared.script.Line.{Line}
use Rattle.cal_script.specs.declared.script.Script.{Script}
use Rattle.cal_value.specs.ExactOrder.{exact_decides, exact_equiv}
use Rattle.cal_value.specs.Order.{path_cmp}
use Rattle.cal_value.specs.OrderLaws.{path_exact}
use Rattle.cal_world.proofs.RunLemmas.{whole-run}
use Rattle.cal_world.proofs.TurnLemmas.{notes-long}
use Rattle.cal_world.specs.Progress.{AreNext, Progress, Reached, at_end, at_start, behind}
use Rattle.cal_world.specs.Progress.{progress_behind, reached_by}
use Rattle.cal_world.specs.Schedule.{schedule_of}
use Rattle.cal_world.specs.Turns.{turns_by_thread, turns_from}
use Rattle.cal_world.specs.declared.event.Event as events
use Rattle.cal_world.specs.declared.turn.Turn.{Turn}

-- ---- lists

zip-or : {A B : Type 0} (xs : List A) (ys : List B) (i : ℕ) (d : A) (e : B) (p : A × B)
    → i < length xs → length ys ≡ length xs
    → get_or (zip xs ys) i p ≡ (get_or xs i d, get_or ys i e)
zip-or [] ys i d e p below long = absurd (omega (arith, below))
zip-or (x ∷ xs) [] i d e p below long = absurd (omega (arith, long))
zip-or (x ∷ xs) (y ∷ ys) zero d e p below long = refl
zip-or (x ∷ xs) (y ∷ ys) (suc i) d e p below long =
    zip-or xs ys i d e p (omega (arith, below)) (omega (arith, long))

zip-long : {A B : Type 0} (xs : List A) (ys : List B) → length ys ≡ length xs
    → length (zip xs ys) ≡ length xs
zip-long [] ys long = refl
zip-long (x ∷ xs) [] long = absurd (omega (arith, long))
zip-long (x ∷ xs) (y ∷ ys) long = ap suc (zip-long xs ys (omega (arith, long)))

zip-seconds : {A B : Type 0} (xs : List A) (ys : List B) → length ys ≡ length xs
    → map (λ (p : A × B). p.1) (zip xs ys) ≡ ys
zip-seconds [] [] long = refl
zip-seconds [] (y ∷ ys) long = absurd (omega (arith, long))
zip-seconds (x ∷ xs) [] long = absurd (omega (arith, long))
zip-seconds (x ∷ xs) (y ∷ ys) long = ap (λ zs. y ∷ zs) (zip-seconds xs ys (omega (arith, long)))

turns-from-long : (t n before : ℕ) (ls : List (Line × LineNote))
    → length (turns_from t n before ls) ≡ length ls
turns-from-long t n before [] = refl
turns-from-long t n before (l ∷ ls) = ap suc (turns-from-long t (n + 1) l.1.seen ls)

-- lists that give the same, item by item
gathered : {A B R : Type 0} (f : ℕ × A → List R) (g : B → List R) (n : ℕ) (xs : List A)
    (ys : List B) → length ys ≡ length xs
    → ((k : ℕ) (d : A) (e : B) → k < length xs → f (n + k, get_or xs k d) ≡ g (get_or ys k e))
    → flat_map f (enumerate_from n xs) ≡ flat_map g ys
gathered f g n [] [] long same = refl
gathered f g n [] (y ∷ ys) long same = absurd (omega (arith, long))
gathered f g n (x ∷ xs) [] long same = absurd (omega (arith, long))
gathered f g n (x ∷ xs) (y ∷ ys) long same =
    let none : n ≡ n + 0 = omega arith in
    let one : f (n, x) ≡ g y = ap (λ m. f (m, x)) none ∙ same 0 x y (omega arith) in
    let rest = gathered f g (n + 1) xs ys (omega (arith, long)) (λ k d e below.
    let more : n + 1 + k ≡ n + suc k = omega arith in
    ap (λ m. f (m, get_or xs k d)) more ∙ same (suc k) d e (omega (arith, below))) in
    λ j. one j ++ rest j

numbered : {A R : Type 0} (f : A → List R) (n : ℕ) (xs : List A)
    → flat_map f xs ≡ flat_map (λ (z : ℕ × A). f z.1) (enumerate_from n xs)
numbered f n [] = refl
numbered f n (x ∷ xs) = ap (λ rs. f x ++ rs) (numbered f (n + 1) xs)

all-gathered : {A : Type 0} (paths : List Path) (f : A → List Path) (xs : List A)
    → ((k : ℕ) (d : A) → k < length xs → HasPaths paths (f (get_or xs k d)))
    → HasPaths paths (flat_map f xs)
all-gathered paths f [] each = All-nil (Contains paths)
all-gathered paths f (x ∷ xs) each =
    All-append (Contains paths) (f x) (flat_map f xs) (each 0 x (omega arith))
    (all-gathered paths f xs (λ k d below. each (suc k) d (omega (arith, below))))

-- ---- as many paths

abbrev same_path : Path → Path → Bool
same_path = eq_by_cmp path_cmp

member-there : (ps : List Path) (q : Path) → Contains ps q → is_member same_path ps q ≡ true
member-there ps q there = list_any-from_Contains (exact_equiv path_exact) q ps there

there-member : (ps : List Path) (q : Path) → is_member same_path ps q ≡ true → Contains ps q
there-member ps q is = Contains-from_any (λ x y. (exact_decides path_exact x y).0) q ps is

same-members : (ps qs : List Path) → HasPaths qs ps → HasPaths ps qs → (q : Path)
    → is_member same_path ps q ≡ is_member same_path qs q
same-members ps qs one two q =
    by (is_member same_path ps q) (is_member same_path qs q) refl refl
  where
    by : (a b : Bool) → is_member same_path ps q ≡ a → is_member same_path qs q ≡ b → a ≡ b
    by true true ea eb = refl
    by false false ea eb = refl
    by true false ea eb = sym (sym eb ∙ member-there qs q
        (All-contains (Contains qs) ps q one (there-member ps q ea)))
    by false true ea eb = sym ea ∙ member-there ps q
        (All-contains (Contains ps) qs q two (there-member qs q eb))

-- ---- what the last line has seen

module _ (script : Script) (ops : List Placed) where
  seen-rises : (before : ℕ) (ls : List (Line × LineNote)) → SeesInOrder script ops before ls
      → before ≤ seen_from before ls
  seen-rises before [] order = omega arith
  seen-rises before (l ∷ ls) order =
      let up = order.0.rises in
      let more = seen-rises l.1.seen ls order.1 in
      omega (arith, up, more)

  seen-least : (before : ℕ) (ls : List (Line × LineNote)) (n : ℕ) (l : Line × LineNote)
      → SeesInOrder script ops before ls → slice_get ls n ≡ Some l
      → l.1.seen ≤ seen_from before ls
  seen-least before [] n l order is = absurd (let no : None ≡ Some l = is in cc)
  seen-least before (k ∷ ls) zero l order is =
      let same : k ≡ l = (let e : Some k ≡ Some l = is in cc) in
      subst (λ (m : Line × LineNote). m.1.seen ≤ seen_from k.1.seen ls) same
      (seen-rises k.1.seen ls order.1)
  seen-least before (k ∷ ls) (suc n) l order is = seen-least k.1.seen ls n l order.1 is

module _ (script : Script) (journal : Journal) (lawful : Lawful script journal) (w : World)
    (is : IsWorld script journal lawful w)
    (ends : w.progress ≡ at_end script journal) where
  abbrev no_note : ThreadNote
  no_note = record { start = None; lines = [] }

  many : length journal.threads ≡ length script.threads
  many = notes-long script journal lawful.shape

  -- all lines of each thread are done
  all-done : (t : ℕ) → t < length script.threads
      → done script journal t (reached_by w.progress t).lines ≡ noted script journal t
  all-done t inside =
      let lists : List (List Turn) = turns_by_thread script journal in
      let ts : List Turn = turns_from t 1 0 (noted script journal t) in
      let this : get_or lists t [] ≡ ts =
      get_or_from_slice_get lists t ts [] (list-of script journal lawful t inside) in
      let reached : reached_by w.progress t ≡ behind (length (get_or lists t [])) =
      ap (λ (p : Progress). reached_by p t) ends
      ∙ get_or-map (λ (us : List Turn). behind (length us)) lists t [] (behind 0)
      (let long = lists-long script journal lawful in omega (arith, long, inside)) in
      let lines : (reached_by w.progress t).lines ≡ length (noted script journal t) =
      ap (λ (r : Reached). r.lines) reached ∙ ap length this
      ∙ turns-from-long t 1 0 (noted script journal t) in
      take_all (reached_by w.progress t).lines (noted script journal t) (omega (arith, lines))

  notes-all : map (λ (v : ThreadWorld). v.note) w.threads ≡ journal.threads
  notes-all = same_lists _ journal.threads
      (length-map w.threads (λ (v : ThreadWorld). v.note) ∙ is.threads_long ∙ sym many)
      (λ t d below.
      let inside : t < length script.threads =
      (let long = is.threads_long in
      let same = length-map w.threads (λ (v : ThreadWorld). v.note) in
      omega (arith, below, long, same)) in
      let seconds : map (λ (l : Line × LineNote). l.1)
      (done script journal t (reached_by w.progress t).lines) ≡ (note_of script journal t).lines =
      ap (map (λ (l : Line × LineNote). l.1)) (all-done t inside)
      ∙ zip-seconds (get_or script.threads t []) (note_of script journal t).lines
      (lines-noted script journal lawful t inside) in
      get_or-map (λ (v : ThreadWorld). v.note) w.threads t no_thread d
      (let long = is.threads_long in omega (arith, inside, long))
      ∙ (is.noted t inside).notes
      ∙ (λ j. record { start = (note_of script journal t).start; lines = seconds j })
      ∙ get_or_default journal.threads t no_note d (let long = many in omega (arith, inside, long)))

  module _ (c : ℕ) (channel : Channel) (at : slice_get script.channels c ≡ Some channel) where
    -- the snapshots of a thread
    whole-thread : (t : ℕ) (p : List Line × ThreadNote) → t < length script.threads
        → taken_on script journal channel t (done script journal t (reached_by w.progress t).lines)
        ≡ taken_by_thread script journal.ops channel
        (get_or (zip script.threads journal.threads) t p)
    whole-thread t p inside =
        ap (taken_on script journal channel t) (all-done t inside)
        ∙ ap (taken_by_thread script journal.ops channel)
        (sym (zip-or script.threads journal.threads t [] no_note p inside many))

    thread-at : (t : ℕ) (d : ThreadWorld) → t < length w.threads
        → get_or w.threads t d ≡ thread_in w t
    thread-at t d below = get_or_default w.threads t d no_thread below

    traced-all : traced_in w c ≡ snapshots script journal channel
    traced-all =
        numbered (λ (v : ThreadWorld). (held_by v c).trace) 0 w.threads
        ∙ gathered (λ (z : ℕ × ThreadWorld). (held_by z.1 c).trace)
        (taken_by_thread script journal.ops channel) 0 w.threads
        (zip script.threads journal.threads)
        (zip-long script.threads journal.threads many ∙ sym is.threads_long)
        (λ t d p below.
        let inside : t < length script.threads =
        (let long = is.threads_long in omega (arith, below, long)) in
        ap (λ (v : ThreadWorld). (held_by v c).trace) (thread-at t d below)
        ∙ ((is.channels t inside).each c channel at).trace
        ∙ whole-thread t p inside)

    booked-all : booked_in w c ≡ snapshots script journal channel
    booked-all =
        gathered (λ (z : ℕ × ThreadWorld).
        given_by z.0 (book_in w c) ++ (held_by z.1 c).unflushed)
        (taken_by_thread script journal.ops channel) 0 w.threads
        (zip script.threads journal.threads)
        (zip-long script.threads journal.threads many ∙ sym is.threads_long)
        (λ t d p below.
        let inside : t < length script.threads =
        (let long = is.threads_long in omega (arith, below, long)) in
        let none : 0 + t ≡ t = omega arith in
        ap (λ m. given_by m (book_in w c) ++ (held_by (get_or w.threads t d) c).unflushed) none
        ∙ ap (λ (v : ThreadWorld). given_by t (book_in w c) ++ (held_by v c).unflushed)
        (thread-at t d below)
        ∙ ((is.channels t inside).each c channel at).booked
        ∙ whole-thread t p inside)

  -- ---- paths

  -- what the boards of a thread held
  held-thread : (t : ℕ) (d : List Line) → t < length script.threads
      → HasPaths w.paths (held_by_thread script (get_or script.threads t d))
  held-thread t d inside =
      let ops : map (own_of script) (done script journal t (reached_by w.progress t).lines)
      ≡ map (own_of script) (noted script journal t) =
      ap (map (own_of script)) (all-done t inside) in
      subst (λ (ls : List Line). HasPaths w.paths (held_by_thread script ls))
      (get_or_default script.threads t [] d inside)
      (subst (λ (os : List (Option Operation)). HasPaths w.paths (held_from script nothing_open os))
      (ops ∙ own-all script (get_or script.threads t []) (note_of script journal t).lines
      (lines-noted script journal lawful t inside))
      (is.nodes t inside).lines.held)

  -- the thread whose operation is the last of the history has taken in all of it
  held-process : (n : ℕ) → length journal.ops ≡ n
      → HasPaths w.paths (held_by_process script journal.ops)
  held-process zero long =
      subst (λ (ps : List Placed). HasPaths w.paths (held_by_process script ps))
      (sym (nil_from_length journal.ops long)) (All-nil (Contains w.paths))
  held-process (suc n) long =
      let d : Placed = record { thread = 0; line = 0 } in
      let p : Placed = get_or journal.ops n d in
      let found = placed-turn script journal lawful n d (omega (arith, long)) in
      let t = p.thread in
      let x : Turn = found.turn in
      let inside = found.within in
      let line = next-of script journal lawful t (p.line - 1) x found.next in
      let order : SeesInOrder script journal.ops 0 (noted script journal t) =
      subst (λ (z : List Line × ThreadNote). SeesInOrder script journal.ops 0 (zip z.0 z.1.lines))
      (zip-or script.threads journal.threads t [] no_note ([], no_note) inside many)
      ((lawful-read script journal lawful).order t ([], no_note)
      (let all = zip-long script.threads journal.threads many in omega (arith, all, inside))) in
      let least = seen-least script journal.ops 0 (noted script journal t) (p.line - 1)
      (x.line, x.note) order line.at in
      let seen = found.seen in
      let walked : HasPaths w.paths
      (held_by_process script (take (seen_from 0 (noted script journal t)) journal.ops)) =
      subst (λ (ls : List (Line × LineNote)). HasPaths w.paths
      (held_by_process script (take (seen_from 0 ls) journal.ops))) (all-done t inside)
      (is.nodes t inside).walked.held in
      subst (λ (ps : List Placed). HasPaths w.paths (held_by_process script ps))
      (take_all (seen_from 0 (noted script journal t)) journal.ops
      (omega (arith, least, seen, long)))
      walked

  paths-all : length w.paths ≡ nodes script journal
  paths-all = length-from_keys (exact_equiv path_exact) w.paths (held_paths script journal) is.apart
      (same-members w.paths (held_paths script journal) is.held
      (All-append (Contains w.paths) (flat_map (held_by_thread script) script.threads)
      (held_by_process script journal.ops)
      (all-gathered w.paths (held_by_thread script) script.threads held-thread)
      (held-process (length journal.ops) refl)))

  ends-journal : EndsJournal script journal w
  ends-journal = record {
    history = ap (λ (p : Progress). p.history) ends;
    notes = notes-all;
    traced = traced-all;
    booked = booked-all;
    paths = paths-all;
  }

-- behind events that end all lines
pub ended-world : (script : Script) (journal : Journal) → Lawful script journal
    → (es : List events.Event) → AreNext script journal (at_start script journal) es
    → progress_behind (at_start script journal) es ≡ at_end script journal
    → EndsJournal script journal (world_behind script journal (world_at_start script journal) es)
ended-world script journal lawful es next ends =
    ends-journal script journal lawful
    (world_behind script journal (world_at_start script journal) es)
    (world-events script journal lawful es next)
    (progress-behind script journal lawful (world_at_start script journal) es next ∙ ends)

pub whole-world : (script : Script) (journal : Journal) → Lawful script journal
    → EndsJournal script journal (world_behind script journal (world_at_start script journal)
    (schedule_of script journal))
whole-world script journal lawful =
    let run = whole-run script journal lawful in
    ended-world script journal lawful (schedule_of script journal) run.next run.ends
