-- In a world behind events of a lawful journal, the next event may come.
use Rattle.std.proofs.Common.{◌≡◌, ℕ, ◌+◌, ◌-◌, ◌<◌, ◌≤◌, Bool, true, false, List, [], ◌∷◌}
use Rattle.std.proofs.Common.{◌++◌, length, take, drop, ap, subst, sym, refl, ◌∙◌, arith}
use Rattle.std.proofs.Common.{if◌then◌else◌}
use Rattle.std.specs.Prelude.{Option, Some, None, flat_map, not, ◌&&◌, slice_get, slice_index_or}
use Rattle.std.specs.Prelude.{slice_range, zip}
use Rattle.std.specs.List.{All}
use Rattle.std.proofs.lemmas.List.{length-append, length-drop, length-take}
use Rattle.std.proofs.lemmas.List.Elements.{All-cons, All-nil, All-take}
use Rattle.std.proofs.lemmas.List.Sums.{get_or-le-sum_by}
use Rattle.std.proofs.lemmas.Option.{slice_get_within}
use Rattle.std.proofs.lemmas.Slice.Zip.{length-zip}
use Rattle.cal_board.specs.Blackboard.{Blackboard}
use Rattle.cal_events.proofs.NextLemmas.{IsNextLine, next-of}
use Rattle.cal_events.proofs.StartLemmas.{world-events}
use Rattle.cal_events.proofs.WorldLemmas.{IsWorld, progress-after}
use Rattle.cal_events.specs.Effects.{world_after, world_behind}
use Rattle.cal_events.specs.Keeping.{noted, note_of}
use Rattle.cal_events.specs.Worlds.{World, world_at_start}
use Rattle.cal_run.proofs.HeldLemmas.{after-known, slice_get-All}
use Rattle.cal_run.proofs.LawLemmas.{all-rest}
use Rattle.cal_run.proofs.LineLemmas.{line-places}
use Rattle.cal_run.specs.Adding.{MayHavePlaces}
use Rattle.cal_run.specs.Held.{IsKnown}
use Rattle.cal_run.specs.History.{board_placed}
use Rattle.cal_run.specs.Lawful.{Lawful}
use Rattle.cal_run.specs.Lines.{attr_ref, is_process_line, operation_of, value_of}
use Rattle.cal_run.specs.Runs.{state_after_lines}
use Rattle.cal_run.specs.Steps.{ThreadState, at_start, changed, found_reply, is_accepted}
use Rattle.cal_run.specs.Steps.{state_after}
use Rattle.cal_run.specs.declared.operation.Operation.{Operation}
use Rattle.cal_script.specs.Valid.{IsPlaced, IsRunnable}
use Rattle.cal_script.specs.declared.journal.Journal.{Journal}
use Rattle.cal_script.specs.declared.journal.LineNote.{LineNote}
use Rattle.cal_script.specs.declared.journal.Placed.{Placed}
use Rattle.cal_script.specs.declared.script.Line.{Line}
use Rattle.cal_script.specs.declared.script.Script.{Script}
use Rattle.cal_board.specs.PathBoards.{AreKnown}
use Rattle.cal_board.specs.declared.opened.Slot.{Slot}
use Rattle.cal_steps.specs.Behind.{IsBehind, IsReady}
use Rattle.cal_value.specs.declared.variant.Variant.{Variant}
use Rattle.cal_world.specs.Events.{end_event, events_of, first_events, is_looking, needs_node}
use Rattle.cal_world.specs.Events.{node_if, placed_node, placed_nodes, seen_before}
use Rattle.cal_world.specs.Progress.{AreNext, IsNext, Progress, reached_by, thread_of}
use Rattle.cal_world.specs.declared.event.Event as events
use Rattle.cal_world.specs.declared.event.Event.TheVariants as event
use Rattle.cal_world.specs.declared.turn.Turn.{Turn}

-- ---- a line has few events

one-node : (t : ℕ) (b : Bool) → length (node_if t b) ≤ 1
one-node t true = omega arith
one-node t false = omega arith

one-first : (t l : ℕ) (b c : Bool) → length (if b then event.Place t l ∷ []
    else (if c then event.Look t l ∷ [] else [])) ≤ 1
one-first t l true c = omega arith
one-first t l false true = omega arith
one-first t l false false = omega arith

module _ (script : Script) (journal : Journal) where
  few-nodes : (t : ℕ) (ps : List Placed)
      → length (flat_map (placed_nodes script journal t) ps) ≤ length ps
  few-nodes t [] = omega arith
  few-nodes t (p ∷ ps) =
      let one = one-node t (placed_node script journal p) in
      let rest = few-nodes t ps in
      let whole = length-append (placed_nodes script journal t p)
      (flat_map (placed_nodes script journal t) ps) in
      omega (arith, one, rest, whole)

  pub few-events : (x : Turn) (k : ℕ) (e : events.Event)
      → slice_get (events_of script journal x) k ≡ Some e → k < length journal.ops + 3
  few-events x k e is =
      let below = slice_get_within (events_of script journal x) k e is in
      let first = first_events script x in
      let ps = slice_range journal.ops x.before (seen_before script x) in
      let some = flat_map (placed_nodes script journal x.thread) ps in
      let own = node_if x.thread (needs_node script x.line x.note) in
      let a = length-append ((first ++ some) ++ own) (end_event x x.line ∷ []) in
      let b = length-append (first ++ some) own in
      let c = length-append first some in
      let one = one-first x.thread x.number (is_process_line script x.line)
      (is_looking script x.line x.note) in
      let two = one-node x.thread (needs_node script x.line x.note) in
      let three = few-nodes x.thread ps in
      let less = length-take (seen_before script x - x.before) (drop x.before journal.ops) in
      let past = length-drop x.before journal.ops in
      omega (arith, below, a, b, c, one, two, three, less, past)

-- ---- a thread's board is known

module _ (script : Script) where
  abbrev pub IsRight : Line → Type 0
  IsRight l = IsPlaced script.attributes script.channels script.values l

  abbrev AreRight : Line × LineNote → Type 0
  AreRight l = IsRight l.0

  zip-right : (ls : List Line) (ns : List LineNote) → All IsRight ls → All AreRight (zip ls ns)
  zip-right [] ns all = All-nil AreRight
  zip-right (l ∷ ls) [] all = All-nil AreRight
  zip-right (l ∷ ls) (n ∷ ns) all =
      All-cons AreRight (l, n) (zip ls ns) (all 0 l (omega arith))
      (zip-right ls ns (all-rest IsRight l ls all))

  pub known-op : (b : Blackboard Variant) (o : Option Operation) → MayHavePlaces script o
      → IsKnown script b → IsKnown script (board_placed script b o)
  known-op b None places known = known
  known-op b (Some op) places known = after-known script b known (attr_ref script op.attr)
      places.attr (value_of script op) op.code

  known-after : (ops : List Placed) (l : Line) (n : LineNote) (s : ThreadState) → IsRight l
      → IsKnown script s.board → IsKnown script (state_after script ops l n s).board
  known-after ops l n s right known =
      by (is_accepted (found_reply script ops l n s) && not (is_process_line script l))
    where
      by : (b : Bool) → IsKnown script (if b then changed script ops l n s else s).board
      by true = known-op s.board (operation_of l) (line-places script l right) known
      by false = known

  pub known-lines : (ops : List Placed) (ls : List (Line × LineNote)) (s : ThreadState)
      → All AreRight ls → IsKnown script s.board
      → IsKnown script (state_after_lines script ops s ls).board
  known-lines ops [] s all known = known
  known-lines ops (l ∷ ls) s all known =
      known-lines ops ls (state_after script ops l.0 l.1 s) (all-rest AreRight l ls all)
      (known-after ops l.0 l.1 s (all 0 l (omega arith)) known)

-- ---- the event may come

module _ (script : Script) (journal : Journal) (runnable : IsRunnable script)
    (lawful : Lawful script journal) (w : World) (is : IsWorld script journal lawful w)
    (e : events.Event) (next : IsNext script journal w.progress e)
    (small : length journal.ops + 4 < 18446744073709551616) where
  abbrev t : ℕ
  t = thread_of e

  abbrev n : ℕ
  n = (reached_by w.progress t).lines

  inside : t < length script.threads
  inside = (let less = next.within in let long = is.reached_long in omega (arith, less, long))

  line : IsNextLine script journal lawful t n next.turn
  line = next-of script journal lawful t n next.turn next.line

  right : All (AreRight script) (noted script journal t)
  right = zip-right script (slice_index_or script.threads t []) (note_of script journal t).lines
      (runnable.places t [] inside)

  few : n + 1 < 18446744073709551616
  few =
      let below = line.within in
      let zipped = length-zip (slice_index_or script.threads t [])
      (note_of script journal t).lines in
      let most = get_or-le-sum_by length script.threads t [] inside in
      omega (arith, below, zipped, most, runnable.few_lines)

  pub ready : IsReady script w next.turn t
  ready =
      let has = is.noted t inside in
      record {
        within = (let here = inside in let long = is.threads_long in omega (arith, here, long));
        reached = next.within;
        few_events = (let most = few-events script journal next.turn
            (reached_by w.progress t).events e next.event in omega (arith, most, small));
        few_lines = few;
        placed = slice_get-All (AreRight script) (noted script journal t) n
            (next.turn.line, next.turn.note) right line.at;
        known = subst (λ (s : ThreadState). IsKnown script s.board) (sym has.state)
            (known-lines script journal.ops (take n (noted script journal t)) at_start
            (All-take (AreRight script) n (noted script journal t) right) (record {
              references = All-nil (λ (s : Slot Variant). AreKnown script.attributes s.opened);
              as_values = All-nil (λ (s : Slot Variant). AreKnown script.attributes s.opened);
            }));
        seen = has.within;
        long = (is.channels t inside).long;
        books = is.books_long;
      }

-- a world behind events keeps the journal
pub behind-world : (script : Script) (journal : Journal) (lawful : Lawful script journal)
    (w : World) → IsBehind script journal w → IsWorld script journal lawful w
behind-world script journal lawful w behind =
    subst (IsWorld script journal lawful) (sym behind.world)
    (world-events script journal lawful behind.events behind.next)

-- ---- the world behind one event more

module _ (script : Script) (journal : Journal) (lawful : Lawful script journal) where
  next-last : (w : World) (es : List events.Event) (e : events.Event)
      → AreNext script journal w.progress es
      → IsNext script journal (world_behind script journal w es).progress e
      → AreNext script journal w.progress (es ++ e ∷ [])
  next-last w [] e before next = (next, tt)
  next-last w (d ∷ es) e before next = (
    before.0,
    subst (λ (p : Progress). AreNext script journal p (es ++ e ∷ []))
        (progress-after script journal lawful w d before.0)
        (next-last (world_after script journal w d) es e
        (subst (λ (p : Progress). AreNext script journal p es)
        (sym (progress-after script journal lawful w d before.0)) before.1) next),
  )

  world-last : (w : World) (es : List events.Event) (e : events.Event)
      → world_after script journal (world_behind script journal w es) e
      ≡ world_behind script journal w (es ++ e ∷ [])
  world-last w [] e = refl
  world-last w (d ∷ es) e = world-last (world_after script journal w d) es e

  pub behind-next : (w new : World) (e : events.Event) → IsBehind script journal w
      → IsNext script journal w.progress e → new ≡ world_after script journal w e
      → IsBehind script journal new
  behind-next w new e behind next is = record {
    events = behind.events ++ e ∷ [];
    next = next-last (world_at_start script journal) behind.events e behind.next
        (subst (λ (u : World). IsNext script journal u.progress e) behind.world next);
    world = is ∙ ap (λ (u : World). world_after script journal u e) behind.world
        ∙ world-last (world_at_start script journal) behind.events e;
  }
