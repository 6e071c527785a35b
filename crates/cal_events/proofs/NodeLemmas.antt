-- Which paths have a node between two events.
use Rattle.std.proofs.Common.{◌≡◌, ℕ, suc, zero, ◌+◌, ◌-◌, ◌<◌, ◌≤◌, Bool, true, false, List, []}
use Rattle.std.proofs.Common.{◌∷◌, ◌++◌, length, take, drop, get_or, ap, subst, sym, refl, ◌∙◌}
use Rattle.std.proofs.Common.{arith, if◌then◌else◌, ◌==◌, Contains}
use Rattle.std.specs.Prelude.{zip, Option, Some, None, flat_map, option_and_then, slice_get}
use Rattle.std.specs.Prelude.{slice_range}
use Rattle.std.specs.List.{IsDistinct, enumerate_from}
use Rattle.std.specs.Ordering.{eq_by_cmp}
use Rattle.std.specs.Set.{is_member}
use Rattle.std.proofs.lemmas.Bool.{ne_eqb}
use Rattle.std.proofs.lemmas.List.{drop-append-le, length-drop, take-append-le, length-take-le}
use Rattle.std.proofs.lemmas.List.{take_all, take_more}
use Rattle.std.proofs.lemmas.List.Elements.{All-nil, Contains-append_left, Contains-push, All-push}
use Rattle.std.proofs.lemmas.Map.Keys.{IsDistinct-push}
use Rattle.std.proofs.lemmas.Map.Views.{Contains-from_any}
use Rattle.std.proofs.lemmas.Option.{slice_get-get_or, slice_get_within}
use Rattle.cal_board.specs.Blackboard.{Blackboard}
use Rattle.cal_board.specs.declared.opened.Slot.{Slot}
use Rattle.cal_context.specs.Lists.{IsFront}
use Rattle.cal_events.proofs.BoardLemmas.{HasBoard, HasSlot, Path, opened}
use Rattle.cal_events.proofs.NextLemmas.{IsNextLine, Rules, noted_with}
use Rattle.cal_events.proofs.PlacedLemmas.{own-opened, placed-needs}
use Rattle.cal_events.proofs.PositionLemmas.{first_count}
use Rattle.cal_events.proofs.ThreadLemmas.{done, one-turn, seen-push, state_behind}
use Rattle.cal_events.proofs.WalkLemmas.{HasLines, HasWalked, lines-next, walked-more, walked-next}
use Rattle.cal_events.specs.Keeping.{HasPaths, seen_from}
use Rattle.cal_events.specs.Nodes.{node_paths, own_path, path_if, placed_path, with_path}
use Rattle.cal_run.proofs.FrontLemmas.{process_board-front, process_seen-front}
use Rattle.cal_run.proofs.LawLemmas.{all-back, all-front}
use Rattle.cal_run.specs.History.{placed_operation, process_board}
use Rattle.cal_run.specs.Lawful.{Lawful}
use Rattle.cal_run.specs.Lines.{is_process_line, line_at, operation_of}
use Rattle.cal_run.specs.Runs.{state_after_lines}
use Rattle.cal_run.specs.Steps.{ThreadState, acted_on, at_start}
use Rattle.cal_run.specs.declared.operation.Operation.{Operation}
use Rattle.cal_script.specs.declared.journal.Journal.{Journal}
use Rattle.cal_script.specs.declared.journal.LineNote.{LineNote}
use Rattle.cal_script.specs.declared.journal.Placed.{Placed}
use Rattle.cal_script.specs.declared.script.Line.{Line}
use Rattle.cal_script.specs.declared.script.Script.{Script}
use Rattle.cal_value.specs.ExactOrder.{exact_decides, exact_equiv}
use Rattle.cal_value.specs.Order.{path_cmp}
use Rattle.cal_value.specs.OrderLaws.{path_exact}
use Rattle.cal_value.specs.declared.variant.Variant.{Variant}
use Rattle.cal_world.specs.Events.{needs_node, placed_node, seen_before}
use Rattle.cal_world.specs.Progress.{Reached, behind, turn_behind}
use Rattle.cal_world.specs.declared.turn.Turn.{Turn}

zip-first : {A B : Type 0} (xs : List A) (ys : List B) (i : ℕ) (p : A × B)
    → slice_get (zip xs ys) i ≡ Some p → slice_get xs i ≡ Some p.0
zip-first [] ys i p is = absurd (let no : None ≡ Some p = is in cc)
zip-first (x ∷ xs) [] i p is = absurd (let no : None ≡ Some p = is in cc)
zip-first (x ∷ xs) (y ∷ ys) zero p is =
    let same : (x, y) ≡ p = (let e : Some (x, y) ≡ Some p = is in cc) in
    λ j. Some (same j).0
zip-first (x ∷ xs) (y ∷ ys) (suc i) p is = zip-first xs ys i p is

-- ---- a path is added

abbrev same_path : Path → Path → Bool
same_path = eq_by_cmp path_cmp

-- these paths are among those
abbrev pub Within : List Path → List Path → Type 0
Within was is = (p : Path) → Contains was p → Contains is p

pub with-within : (paths : List Path) (o : Option Path) → Within paths (with_path paths o)
with-within paths None p there = there
with-within paths (Some q) p there = by (is_member same_path paths q)
  where
    by : (b : Bool) → Contains (if b then paths else paths ++ q ∷ []) p
    by true = there
    by false = Contains-append_left paths (q ∷ []) p there

with-there : (paths : List Path) (q : Path) → Contains (with_path paths (Some q)) q
with-there paths q = by (is_member same_path paths q) refl
  where
    by : (b : Bool) → is_member same_path paths q ≡ b
        → Contains (if b then paths else paths ++ q ∷ []) q
    by true e = Contains-from_any (λ x y. (exact_decides path_exact x y).0) q paths e
    by false e = Contains-push paths q

pub with-apart : (paths : List Path) (o : Option Path) → IsDistinct same_path paths
    → IsDistinct same_path (with_path paths o)
with-apart paths None apart = apart
with-apart paths (Some q) apart = by (is_member same_path paths q) refl
  where
    by : (b : Bool) → is_member same_path paths q ≡ b
        → IsDistinct same_path (if b then paths else paths ++ q ∷ [])
    by true e = apart
    by false e = IsDistinct-push (exact_equiv path_exact) paths q apart e

pub with-held : (held paths : List Path) (o : Option Path) → HasPaths held paths
    → ((q : Path) → o ≡ Some q → Contains held q) → HasPaths held (with_path paths o)
with-held held paths None all new = all
with-held held paths (Some q) all new = by (is_member same_path paths q)
  where
    by : (b : Bool) → HasPaths held (if b then paths else paths ++ q ∷ [])
    by true = all
    by false = All-push (Contains held) paths q all (new q refl)

-- ---- more paths

pub paths-within : (was is some : List Path) → Within was is → HasPaths was some → HasPaths is some
paths-within was is some less all k d below = less _ (all k d below)

module _ (script : Script) (was is : List Path) (less : Within was is) where
  slot-within : (s : Slot Variant) → HasSlot script was s → HasSlot script is s
  slot-within s has = record {
    held = has.held;
    fronts = λ k some long. less _ (has.fronts k some long);
  }

  pub board-within : (b : Blackboard Variant) → HasBoard script was b → HasBoard script is b
  board-within b has k d below = slot-within _ (has k d below)

  pub walked-within : (ops : List Placed) (i : ℕ) → HasWalked script ops was i
      → HasWalked script ops is i
  walked-within ops i has = record {
    board = board-within (process_board script ops i) has.board;
    held = paths-within was is _ less has.held;
  }

  pub lines-within : (ops : List Placed) (ls : List (Line × LineNote)) → HasLines script ops was ls
      → HasLines script ops is ls
  lines-within ops ls has = record {
    board = board-within (state_after_lines script ops at_start ls).board has.board;
    held = paths-within was is _ less has.held;
  }

-- ---- the paths of a line by a front of the history

-- a part of a front is that of the whole
pub range-front : {A : Type 0} (h more : List A) (a b : ℕ) → a ≤ b → b ≤ length h
    → slice_range (h ++ more) a b ≡ slice_range h a b
range-front h more a b less inside =
    ap (take (b - a)) (drop-append-le a h more (omega (arith, less, inside)))
    ∙ take-append-le (b - a) (drop a h) more
    (let long = length-drop a h in omega (arith, long, less, inside))

range-long : {A : Type 0} (h : List A) (a b : ℕ) → a ≤ b → b ≤ length h
    → a + length (slice_range h a b) ≡ b
range-long h a b less inside =
    let long = length-drop a h in
    let few = length-take-le (b - a) (drop a h) (omega (arith, long, less, inside)) in
    omega (arith, few, less)

module _ (script : Script) (journal : Journal) (h more : List Placed) where
  placed-front : (k : ℕ) (ps : List Placed) → k + length ps ≤ length h
      → flat_map (placed_path script journal (h ++ more)) (enumerate_from k ps)
      ≡ flat_map (placed_path script journal h) (enumerate_from k ps)
  placed-front k [] inside = refl
  placed-front k (p ∷ ps) inside =
      let one : process_board script (h ++ more) k ≡ process_board script h k =
      process_board-front script h more k (omega (arith, inside)) in
      let rest = placed-front (k + 1) ps (omega (arith, inside)) in
      λ j. path_if script (placed_node script journal p) (one j) (placed_operation script p)
      ++ rest j

  pub paths-front : (x : Turn) (state : ThreadState) → x.note.seen ≤ length h
      → x.before ≤ seen_before script x → seen_before script x ≤ length h
      → node_paths script journal (h ++ more) x state ≡ node_paths script journal h x state
  paths-front x state inside less within =
      let range : slice_range (h ++ more) x.before (seen_before script x)
      ≡ slice_range h x.before (seen_before script x) =
      range-front h more x.before (seen_before script x) less within in
      let long = range-long h x.before (seen_before script x) less within in
      let placed = placed-front x.before (slice_range h x.before (seen_before script x))
      (omega (arith, long, within)) in
      let own = process_seen-front script h more x.line x.note inside in
      (λ j. flat_map (placed_path script journal (h ++ more)) (enumerate_from x.before (range j))
      ++ own_path script journal (h ++ more) x state)
      ∙ (λ j. placed j ++ path_if script (needs_node script x.line x.note)
      (if is_process_line script x.line then own j else state.board) (operation_of x.line))

module _ (script : Script) (journal : Journal) (lawful : Lawful script journal) where
  -- what a line takes in lies before what it has seen
  pub before-less : (x : Turn) (state : ThreadState) → Rules script journal (noted_with x state)
      → (x.before ≤ seen_before script x) × (seen_before script x ≤ x.note.seen)
  before-less x state rule = by (is_process_line script x.line) refl
    where
      by : (b : Bool) → is_process_line script x.line ≡ b
          → (x.before ≤ (if b then x.note.seen - 1 else x.note.seen))
          × ((if b then x.note.seen - 1 else x.note.seen) ≤ x.note.seen)
      by true e = (let less = (rule.own e).before in omega (arith, less), omega arith)
      by false e = (let less = rule.rises in omega (arith, less), omega arith)

  pub world-paths : (h : List Placed) → IsFront h journal.ops → (x : Turn) (state : ThreadState)
      → Rules script journal (noted_with x state) → x.note.seen ≤ length h
      → node_paths script journal h x state ≡ node_paths script journal journal.ops x state
  world-paths h front x state rule inside =
      let less = before-less x state rule in
      let up = less.1 in
      sym ((λ j. node_paths script journal (front.1 j) x state)
      ∙ paths-front script journal h front.0 x state inside less.0 (omega (arith, up, inside)))

  -- ---- a thread

  -- the paths of a line that comes next
  abbrev pub paths_next : (t n : ℕ) → Turn → List Path
  paths_next t n x = node_paths script journal journal.ops x (state_behind script journal t n)

  -- What the boards of a thread have come to hold has its nodes, and so have the first paths of the
  -- line that comes next, as many as nodes of it were made.
  pub record HasNodes (paths : List Path) (t : ℕ) (r : Reached) : Type 0 where
    pub lines : HasLines script journal.ops paths (done script journal t r.lines)
    pub walked : HasWalked script journal.ops paths (seen_from 0 (done script journal t r.lines))
    pub made : (x : Turn) → turn_behind script journal t r.lines ≡ Some x
        → HasPaths paths (take (r.events - first_count script journal x) (paths_next t r.lines x))

  pub nodes-within : (was is : List Path) → Within was is → (t : ℕ) (r : Reached)
      → HasNodes was t r → HasNodes is t r
  nodes-within was is less t r has = record {
    lines = lines-within script was is less journal.ops (done script journal t r.lines) has.lines;
    walked = walked-within script was is less journal.ops
        (seen_from 0 (done script journal t r.lines)) has.walked;
    made = λ x there. paths-within was is
        (take (r.events - first_count script journal x) (paths_next t r.lines x)) less
        (has.made x there);
  }

  -- a first event makes none
  pub nodes-first : (paths : List Path) (t n k : ℕ) (x : Turn)
      → turn_behind script journal t n ≡ Some x → k + 1 ≤ first_count script journal x
      → HasNodes paths t (record { lines = n; events = k })
      → HasNodes paths t (record { lines = n; events = k + 1 })
  nodes-first paths t n k x is early has = record {
    lines = has.lines;
    walked = has.walked;
    made = λ y there. subst (λ (m : ℕ). HasPaths paths (take m (paths_next t n y)))
        (let same = ap (first_count script journal)
        (one-turn (turn_behind script journal t n) x y is there) in
        let none : 0 ≡ k + 1 - first_count script journal y = omega (arith, same, early) in none)
        (All-nil (Contains paths));
  }

  -- a node is made
  more-made : (paths ps : List Path) (j : ℕ) → HasPaths paths (take j ps)
      → HasPaths (with_path paths (slice_get ps j)) (take (j + 1) ps)
  more-made paths [] zero has = All-nil (Contains paths)
  more-made paths [] (suc j) has =
      subst (λ (m : ℕ). HasPaths paths (take m []))
      (let e : suc (suc j) ≡ suc j + 1 = omega arith in e)
      (All-nil (Contains paths))
  more-made paths (p ∷ ps) j has = by (slice_get (p ∷ ps) j) refl
    where
      by : (o : Option Path) → slice_get (p ∷ ps) j ≡ o
          → HasPaths (with_path paths o) (take (j + 1) (p ∷ ps))
      by None e = subst (HasPaths paths) (all (past j (p ∷ ps) e)) has
        where
          past : (i : ℕ) (qs : List Path) → slice_get qs i ≡ None → length qs ≤ i
          past i [] is = omega arith
          past zero (q ∷ qs) is = absurd (let no : Some q ≡ None = is in cc)
          past (suc i) (q ∷ qs) is = (let less = past i qs is in omega (arith, less))

          all : length (p ∷ ps) ≤ j → take j (p ∷ ps) ≡ take (j + 1) (p ∷ ps)
          all less = take_all j (p ∷ ps) less
              ∙ sym (take_all (j + 1) (p ∷ ps) (omega (arith, less)))
      by (Some q) e =
          let inside : j < length (p ∷ ps) = slice_get_within (p ∷ ps) j q e in
          let this : get_or (p ∷ ps) j p ≡ q =
          (let same : Some (get_or (p ∷ ps) j p) ≡ Some q =
          sym (slice_get-get_or (p ∷ ps) j p inside) ∙ e in cc) in
          subst (HasPaths (with_path paths (Some q)))
          (sym (take_more (p ∷ ps) j p inside))
          (All-push (Contains (with_path paths (Some q))) (take j (p ∷ ps)) (get_or (p ∷ ps) j p)
          (paths-within paths (with_path paths (Some q)) (take j (p ∷ ps))
          (with-within paths (Some q)) has)
          (subst (Contains (with_path paths (Some q))) (sym this) (with-there paths q)))

  pub nodes-made : (paths : List Path) (t n k : ℕ) (x : Turn) (o : Option Path)
      → turn_behind script journal t n ≡ Some x → first_count script journal x ≤ k
      → o ≡ slice_get (paths_next t n x) (k - first_count script journal x)
      → HasNodes paths t (record { lines = n; events = k })
      → HasNodes (with_path paths o) t (record { lines = n; events = k + 1 })
  nodes-made paths t n k x o is late next has =
      let more = nodes-within paths (with_path paths o) (with-within paths o) t
      (record { lines = n; events = k }) has in
      record {
        lines = more.lines;
        walked = more.walked;
        made = λ y there.
            subst (λ (z : Turn). HasPaths (with_path paths o)
            (take (k + 1 - first_count script journal z) (paths_next t n z)))
            (one-turn (turn_behind script journal t n) x y is there)
            (subst (λ (m : ℕ). HasPaths (with_path paths o) (take m (paths_next t n x)))
            (let e : k - first_count script journal x + 1 ≡ k + 1 - first_count script journal x =
            omega (arith, late) in e)
            (subst (λ (p : Option Path). HasPaths (with_path paths p)
            (take (k - first_count script journal x + 1) (paths_next t n x))) (sym next)
            (more-made paths (paths_next t n x) (k - first_count script journal x)
            (has.made x is))));
      }

  -- ---- a line ends

  -- the operation of a process line stands at its place
  pub own-placed : (t n : ℕ) (x : Turn) → IsNextLine script journal lawful t n x
      → is_process_line script x.line ≡ true → (d : Placed)
      → (x.note.seen - 1 < length journal.ops)
      × (placed_operation script (get_or journal.ops (x.note.seen - 1) d) ≡ operation_of x.line)
  own-placed t n x line shared d =
      let own = line.rule.own shared in
      let p : Placed = record { thread = x.thread; line = x.number } in
      let inside : x.note.seen - 1 < length journal.ops =
      slice_get_within journal.ops (x.note.seen - 1) p own.own in
      let this : get_or journal.ops (x.note.seen - 1) d ≡ p =
      (let same : Some (get_or journal.ops (x.note.seen - 1) d) ≡ Some p =
      sym (slice_get-get_or journal.ops (x.note.seen - 1) d inside) ∙ own.own in cc) in
      let later = line.number_is in
      let place : x.number - 1 ≡ n = omega (arith, later) in
      let some : (x.number == 0) ≡ false = ne_eqb x.number 0 (λ e. omega (arith, e, later)) in
      let at : slice_get (get_or script.threads t []) n ≡ Some x.line =
      zip-first (get_or script.threads t []) _ n (x.line, x.note) line.at in
      let there : line_at script x.thread x.number ≡ Some x.line =
      (λ j. if some j then None
      else slice_get (get_or script.threads (line.thread j) []) (place j)) ∙ at in (
        inside,
        ap (placed_operation script) this ∙ ap (option_and_then operation_of) there,
      )

  module _ (paths : List Path) (t n : ℕ) (x : Turn)
      (line : IsNextLine script journal lawful t n x)
      (all : HasPaths paths (paths_next t n x)) where
    abbrev state : ThreadState
    state = state_behind script journal t n

    abbrev taken_paths : List Path
    taken_paths = flat_map (placed_path script journal journal.ops)
        (enumerate_from x.before (slice_range journal.ops x.before (seen_before script x)))

    own-there : HasPaths paths (opened script
        (acted_on script journal.ops x.line x.note state) (operation_of x.line))
    own-there = subst (HasPaths paths) (own-opened script journal lawful x state line.rule)
        (all-back (Contains paths) taken_paths (own_path script journal journal.ops x state) all)

    -- what is taken in was walked
    walked-in : HasWalked script journal.ops paths x.before
        → HasWalked script journal.ops paths (seen_before script x)
    walked-in has =
        let less = before-less x state line.rule in
        let up = less.0 in
        let down = less.1 in
        let inside = line.rule.within in
        let to : x.before + (seen_before script x - x.before) ≡ seen_before script x =
        omega (arith, up) in
        subst (HasWalked script journal.ops paths) to
        (walked-more script journal (placed-needs script journal lawful) paths
        (seen_before script x - x.before) x.before (omega (arith, to, down, inside))
        (all-front (Contains paths) taken_paths (own_path script journal journal.ops x state) all)
        has)

    walked-line : (b : Bool) → is_process_line script x.line ≡ b
        → HasWalked script journal.ops paths (if b then x.note.seen - 1 else x.note.seen)
        → HasWalked script journal.ops paths x.note.seen
    walked-line false e has = has
    walked-line true e has =
        let d : Placed = record { thread = 0; line = 0 } in
        let at = own-placed t n x line e d in
        let some = (line.rule.own e).some in
        let acted : acted_on script journal.ops x.line x.note state
        ≡ process_board script journal.ops (x.note.seen - 1) =
        ap (λ b. if b then process_board script journal.ops
        (if b then x.note.seen - 1 else x.note.seen) else state.board) e in
        subst (HasWalked script journal.ops paths)
        (let to : x.note.seen - 1 + 1 ≡ x.note.seen = omega (arith, some) in to)
        (walked-next script journal.ops paths (x.note.seen - 1) d at.0 has
        (subst (λ (o : Option Operation). HasPaths paths (opened script
        (process_board script journal.ops (x.note.seen - 1)) o)) (sym at.1)
        (subst (λ (b : Blackboard Variant). HasPaths paths (opened script b (operation_of x.line)))
        acted own-there)))

    lines-line : (b : Bool) → is_process_line script x.line ≡ b
        → HasLines script journal.ops paths (done script journal t n)
        → HasPaths paths (opened script state.board (if b then None else operation_of x.line))
    lines-line true e has = All-nil (Contains paths)
    lines-line false e has =
        subst (λ (b : Blackboard Variant). HasPaths paths (opened script b (operation_of x.line)))
        (ap (λ b. if b then process_board script journal.ops
        (if b then x.note.seen - 1 else x.note.seen) else state.board) e)
        own-there

    pub nodes-ended : (k : ℕ) → HasNodes paths t (record { lines = n; events = k })
        → HasNodes paths t (behind (n + 1))
    nodes-ended k has = record {
      lines = subst (HasLines script journal.ops paths) (sym line.next)
          (lines-next script journal.ops paths (done script journal t n) (x.line, x.note) has.lines
          (lines-line (is_process_line script x.line) refl has.lines));
      walked = subst (HasWalked script journal.ops paths)
          (sym (ap (seen_from 0) line.next
          ∙ seen-push 0 (done script journal t n) (x.line, x.note)))
          (walked-line (is_process_line script x.line) refl
          (walked-in (subst (HasWalked script journal.ops paths) (sym line.before_is)
          has.walked)));
      made = λ y there. subst (λ (m : ℕ). HasPaths paths (take m (paths_next t (n + 1) y)))
          (let none : 0 ≡ 0 - first_count script journal y = omega arith in none)
          (All-nil (Contains paths));
    }
