-- In a world behind events of a lawful journal, the next node of a line may come.
use Rattle.std.proofs.Common.{◌≡◌, ℕ, suc, zero, ◌+◌, ◌-◌, ◌<◌, ◌≤◌, Bool, true, false, List, []}
use Rattle.std.proofs.Common.{◌∷◌, ◌++◌, filter, fold, length, take, get_or, ap, subst, sym, refl}
use Rattle.std.proofs.Common.{◌∙◌, arith, if◌then◌else◌}
use Rattle.std.specs.Prelude.{Option, Some, None, slice_get, zip}
use Rattle.std.proofs.lemmas.List.{get_or_append_left, length-append}
use Rattle.std.proofs.lemmas.List.Sums.{fold_more}
use Rattle.std.proofs.lemmas.Slice.Zip.{length-zip}
use Rattle.cal_board.specs.Blackboard.{Blackboard, nothing_open}
use Rattle.cal_events.proofs.BoardLemmas.{HasBoard, Path}
use Rattle.cal_events.proofs.NextLemmas.{IsNextLine, next-of, zip-at}
use Rattle.cal_events.proofs.NodeLemmas.{before-less, own-placed, range-front, world-paths}
use Rattle.cal_events.proofs.PositionLemmas.{first_count, line_nodes, node-at}
use Rattle.cal_events.proofs.ThreadLemmas.{state_behind}
use Rattle.cal_events.proofs.WalkLemmas.{HasWalked, board-lines, own_of, process-next}
use Rattle.cal_events.proofs.WorldLemmas.{IsWorld}
use Rattle.cal_events.specs.Effects.{next_path}
use Rattle.cal_events.specs.Keeping.{HasPaths, note_of}
use Rattle.cal_events.specs.Nodes.{node_paths}
use Rattle.cal_events.specs.Worlds.{World, thread_in}
use Rattle.cal_run.proofs.FrontLemmas.{process_board-front}
use Rattle.cal_run.specs.History.{board_placed, placed_operation, process_board}
use Rattle.cal_run.specs.Lawful.{Lawful}
use Rattle.cal_run.specs.Lines.{is_process_line, operation_of}
use Rattle.cal_run.specs.Paths.{own_operation, paths_of}
use Rattle.cal_run.specs.Steps.{ThreadState, acted_on, at_start}
use Rattle.cal_script.specs.declared.journal.Journal.{Journal}
use Rattle.cal_script.specs.declared.journal.LineNote.{LineNote}
use Rattle.cal_script.specs.declared.journal.Placed.{Placed}
use Rattle.cal_script.specs.declared.script.Line.{Line}
use Rattle.cal_script.specs.declared.script.Script.{Script}
use Rattle.cal_steps.proofs.NewestLemmas.{newest-of_place, newest-own}
use Rattle.cal_steps.specs.Behind.{IsNodeReady, MayMakeNode}
use Rattle.cal_steps.specs.Newest.{IsNewest}
use Rattle.cal_steps.specs.NodePlaces.{IsNodePlace, NeedsNode, board_behind, board_of_lines}
use Rattle.cal_steps.specs.NodePlaces.{needing, node_board}
use Rattle.cal_value.specs.declared.variant.Variant.{Variant}
use Rattle.cal_world.specs.Events.{placed_node, seen_before}
use Rattle.cal_world.specs.Progress.{IsNext, reached_by}
use Rattle.cal_world.specs.declared.event.Event as events
use Rattle.cal_world.specs.declared.event.Event.TheVariants as event
use Rattle.cal_world.specs.declared.turn.Turn.{Turn}

-- ---- a front of the history

module _ (script : Script) (journal : Journal) (h more : List Placed) where
  needs-front : (from to count place : ℕ) → to ≤ length h
      → NeedsNode script journal h from to count place
      → NeedsNode script journal (h ++ more) from to count place
  needs-front from to count place inside is =
      let late = is.late in
      let early = is.early in
      record {
        late = late;
        early = early;
        needs = λ d. ap (placed_node script journal)
            (get_or_append_left h more d place (omega (arith, early, inside)))
            ∙ is.needs d;
        before = ap (λ (ps : List Placed). length (filter (placed_node script journal) ps))
            (range-front h more from place late (omega (arith, early, inside)))
            ∙ is.before;
      }

  needing-front : (from to : ℕ) → from ≤ to → to ≤ length h
      → needing script journal (h ++ more) from to ≡ needing script journal h from to
  needing-front from to less inside =
      ap (λ (ps : List Placed). length (filter (placed_node script journal) ps))
      (range-front h more from to less inside)

-- ---- a thread's board behind its first lines

lines-noted : (script : Script) (b : Blackboard Variant) (ls : List Line) (ns : List LineNote)
    (n : ℕ) → n ≤ length (zip ls ns)
    → fold (λ c l. board_placed script c (own_of script l)) b (take n (zip ls ns))
    ≡ fold (λ c l. board_placed script c (own_operation script l)) b (take n ls)
lines-noted script b ls ns zero within = refl
lines-noted script b [] ns (suc n) within = refl
lines-noted script b (l ∷ ls) [] (suc n) within = absurd (omega (arith, within))
lines-noted script b (l ∷ ls) (m ∷ ns) (suc n) within =
    lines-noted script (board_placed script b (own_operation script l)) ls ns n
    (omega (arith, within))

module _ (script : Script) (journal : Journal) (lawful : Lawful script journal) (t n : ℕ)
    (x : Turn) (line : IsNextLine script journal lawful t n x) where
  abbrev ls : List Line
  ls = get_or script.threads t []

  abbrev ns : List LineNote
  ns = (note_of script journal t).lines

  abbrev before : ThreadState
  before = state_behind script journal t n

  -- the line is one of the thread's
  pub line-within : n < length ls
  line-within = (let below = line.within in let long = length-zip ls ns in
      omega (arith, below, long))

  pub number-is : x.number ≡ n + 1
  number-is = (let is = line.number_is in omega (arith, is))

  own-lines : board_of_lines script (take x.number (get_or script.threads x.thread []))
      ≡ board_placed script before.board (own_operation script x.line)
  own-lines =
      (λ j. board_of_lines script (take (number-is j) (get_or script.threads (line.thread j) [])))
      ∙ fold_more (λ c l. board_placed script c (own_operation script l)) nothing_open ls n x.line
      line-within
      ∙ (λ j. board_placed script
      (sym (board-lines script journal.ops at_start (take n (zip ls ns))
      ∙ lines-noted script nothing_open ls ns n
      (let below = line.within in omega (arith, below))) j)
      (own_operation script (sym (ap (λ (p : Line × LineNote). p.0)
      (zip-at ls ns n (x.line, x.note) x.line x.note line.at)) j)))

  -- the board behind the line's own operation
  pub behind-is : board_placed script (acted_on script journal.ops x.line x.note before)
      (operation_of x.line) ≡ board_behind script journal.ops x
  behind-is = by (is_process_line script x.line) refl
    where
      by : (b : Bool) → is_process_line script x.line ≡ b
          → board_placed script (if b
          then process_board script journal.ops (if b then x.note.seen - 1 else x.note.seen)
          else before.board) (operation_of x.line)
          ≡ (if b then process_board script journal.ops x.note.seen
          else board_of_lines script (take x.number (get_or script.threads x.thread [])))
      by true e =
          let d : Placed = record { thread = 0; line = 0 } in
          let placed = own-placed script journal lawful t n x line e d in
          let some = (line.rule.own e).some in
          let to : x.note.seen - 1 + 1 ≡ x.note.seen = omega (arith, some) in
          ap (board_placed script (process_board script journal.ops (x.note.seen - 1)))
          (sym placed.1)
          ∙ sym (process-next script journal.ops (x.note.seen - 1) d placed.0)
          ∙ ap (process_board script journal.ops) to
      by false e = sym (own-lines
          ∙ ap (λ (b : Bool). board_placed script before.board
          (if b then None else operation_of x.line)) e)

-- ---- the world

module _ (script : Script) (journal : Journal) (lawful : Lawful script journal) (w : World)
    (is : IsWorld script journal lawful w) (t : ℕ)
    (next : IsNext script journal w.progress (event.Node t)) where
  abbrev x : Turn
  x = next.turn

  abbrev h : List Placed
  h = w.progress.history

  abbrev n : ℕ
  n = (reached_by w.progress t).lines

  abbrev k : ℕ
  k = (reached_by w.progress t).events

  abbrev j : ℕ
  j = k - first_count script journal x

  abbrev state : ThreadState
  state = state_behind script journal t n

  inside : t < length script.threads
  inside = (let less = next.within in let long = is.reached_long in omega (arith, less, long))

  line : IsNextLine script journal lawful t n x
  line = next-of script journal lawful t n x next.line

  at : (first_count script journal x ≤ k) × (j < length (line_nodes script journal x))
  at = node-at script journal x k (event.Node t) next.event refl

  -- the history has what the line has seen
  seen : x.note.seen ≤ length h
  seen =
      let less = (is.noted t inside).within in
      let all = (is.noted t inside).moved x next.line at.0 in
      omega (arith, less, all)

  taken : (x.before ≤ seen_before script x) × (seen_before script x ≤ x.note.seen)
  taken = before-less script journal lawful x state line.rule

  whole : journal.ops ≡ h ++ is.history.0
  whole = is.history.1

  all-inside : seen_before script x ≤ length journal.ops
  all-inside =
      let long = ap length whole ∙ length-append h is.history.0 in
      let less = taken.1 in
      let all = seen in
      omega (arith, long, less, all)

  path-is : next_path script journal w x t
      ≡ slice_get (node_paths script journal journal.ops x state) j
  path-is = ap (λ (ps : List Path). slice_get ps j)
      (ap (node_paths script journal h x) (is.noted t inside).state
      ∙ world-paths script journal lawful h is.history x state line.rule seen)

  made : HasPaths w.paths (take j (node_paths script journal journal.ops x state))
  made = (is.nodes t inside).made x next.line

  walked : HasWalked script journal.ops w.paths x.before
  walked = subst (HasWalked script journal.ops w.paths) (sym line.before_is)
      (is.nodes t inside).walked

  mine : HasBoard script w.paths state.board
  mine = (is.nodes t inside).lines.board

  abbrev Newest : Option ℕ → Type 0
  Newest place = (path : Path) × (next_path script journal w x t ≡ Some path)
      × IsNewest w.paths (paths_of script (node_board script h x place)) path

  of-place : (place : ℕ)
      → NeedsNode script journal h x.before (seen_before script x) j place → Newest (Some place)
  of-place place needs =
      let d : Placed = record { thread = 0; line = 0 } in
      let less = taken.1 in
      let all = seen in
      let early = needs.early in
      let found = newest-of_place script journal lawful w.paths x state j all-inside walked made
      place (subst (λ (ops : List Placed). NeedsNode script journal ops x.before
      (seen_before script x) j place) (sym whole)
      (needs-front script journal h is.history.0 x.before (seen_before script x) j place
      (omega (arith, less, all)) needs)) d in
      let board : process_board script journal.ops (place + 1)
      ≡ process_board script h (place + 1) =
      ap (λ (ops : List Placed). process_board script ops (place + 1)) whole
      ∙ process_board-front script h is.history.0 (place + 1)
      (omega (arith, early, less, all)) in (
        found.0,
        path-is ∙ found.1,
        subst (λ (b : Blackboard Variant). IsNewest w.paths (paths_of script b) found.0) board
            found.2,
      )

  of-own : needing script journal h x.before (seen_before script x) ≤ j → Newest None
  of-own few =
      let less = taken.1 in
      let all = seen in
      let same : needing script journal journal.ops x.before (seen_before script x)
      ≡ needing script journal h x.before (seen_before script x) =
      ap (λ (ops : List Placed). needing script journal ops x.before (seen_before script x)) whole
      ∙ needing-front script journal h is.history.0 x.before (seen_before script x) taken.0
      (omega (arith, less, all)) in
      let found = newest-own script journal lawful w.paths x state j all-inside walked made
      (omega (arith, same, few)) at.1 line.rule mine in
      let front : process_board script journal.ops x.note.seen
      ≡ process_board script h x.note.seen =
      ap (λ (ops : List Placed). process_board script ops x.note.seen) whole
      ∙ process_board-front script h is.history.0 x.note.seen seen in
      let board : board_placed script (acted_on script journal.ops x.line x.note state)
      (operation_of x.line) ≡ board_behind script h x =
      behind-is script journal lawful t n x line
      ∙ ap (λ (b : Blackboard Variant). if is_process_line script x.line then b
      else board_of_lines script (take x.number (get_or script.threads x.thread []))) front in (
        found.0,
        path-is ∙ found.1,
        subst (λ (b : Blackboard Variant). IsNewest w.paths (paths_of script b) found.0) board
            found.2,
      )

  of-each : (place : Option ℕ)
      → IsNodePlace script journal h x.before (seen_before script x) j place → Newest place
  of-each None few = of-own few
  of-each (Some place) needs = of-place place needs

  pub node-ready : IsNodeReady script journal w x t
  node-ready = record {
    late = at.0;
    thread = subst (λ (u : ℕ). u < length script.threads) (sym line.thread) inside;
    line =
        let below = line-within script journal lawful t n x line in
        let same = number-is script journal lawful t n x line in
        subst (λ (u : ℕ). x.number ≤ length (get_or script.threads u [])) (sym line.thread)
        (omega (arith, below, same));
    seen = seen;
    newest = of-each;
  }

pub may-make : (script : Script) (journal : Journal) (lawful : Lawful script journal) (w : World)
    → IsWorld script journal lawful w → (e : events.Event)
    → (next : IsNext script journal w.progress e) → MayMakeNode script journal w next.turn e
may-make script journal lawful w is (event.Node t) next =
    node-ready script journal lawful w is t next
may-make script journal lawful w is (event.Place t l) next = tt
may-make script journal lawful w is (event.Look t l) next = tt
may-make script journal lawful w is (event.Flush t l) next = tt
may-make script journal lawful w is (event.Own t l) next = tt
