-- The events of a line are each the next of their thread, where the line is.
use Rattle.std.proofs.Common.{◌≡◌, ℕ, ◌+◌, ◌-◌, ◌<◌, Bool, true, false, List, [], ◌∷◌, ◌++◌}
use Rattle.std.proofs.Common.{length, map, get_or, set, ap, subst, sym, refl, ◌∙◌, arith}
use Rattle.std.proofs.Common.{append_assoc, append-nil}
use Rattle.std.proofs.Common.{if◌then◌else◌}
use Rattle.std.specs.Prelude.{Some, flat_map, slice_get, slice_range}
use Rattle.std.proofs.lemmas.List.{get_or-map, get_or-set_same, length-map, length-set}
use Rattle.std.proofs.lemmas.List.{length_push, map-set, set-get_or, set-set}
use Rattle.cal_run.specs.Lines.{is_process_line}
use Rattle.cal_script.specs.declared.journal.Journal.{Journal}
use Rattle.cal_script.specs.declared.journal.Placed.{Placed}
use Rattle.cal_script.specs.declared.script.Line as lines
use Rattle.cal_script.specs.declared.script.Line.TheVariants as line
use Rattle.cal_script.specs.declared.script.Script.{Script}
use Rattle.cal_world.specs.Events.{end_event, events_of, is_looking, needs_node}
use Rattle.cal_world.specs.Events.{node_if, placed_node, placed_nodes, seen_before}
use Rattle.cal_world.specs.Progress.{AreNext, FindsHistory, IsNext, Progress, Reached, behind}
use Rattle.cal_world.specs.Progress.{history_after, progress_after, progress_behind}
use Rattle.cal_world.specs.Progress.{reached_after, thread_of, turn_behind}
use Rattle.cal_world.specs.declared.event.Event as events
use Rattle.cal_world.specs.declared.event.Event.TheVariants as event
use Rattle.cal_world.specs.declared.turn.Turn.{Turn}

-- ---- lists

pub seam : {A : Type 0} (pre : List A) (x : A) (more : List A) → slice_get (pre ++ x ∷ more)
    (length pre) ≡ Some x
seam [] x more = refl
seam (y ∷ pre) x more = seam pre x more

-- ---- nodes

-- these are nodes of a thread
abbrev pub AreNodes : ℕ → List events.Event → Type 0
AreNodes t [] = Unit {0}
AreNodes t (e ∷ es) = (e ≡ event.Node t) × AreNodes t es

nodes-append : (t : ℕ) (xs ys : List events.Event) → AreNodes t xs → AreNodes t ys
    → AreNodes t (xs ++ ys)
nodes-append t [] ys a b = b
nodes-append t (x ∷ xs) ys a b = (a.0, nodes-append t xs ys a.1 b)

pub nodes-if : (t : ℕ) (needed : Bool) → AreNodes t (node_if t needed)
nodes-if t true = (refl, tt)
nodes-if t false = tt

pub nodes-of : (script : Script) (journal : Journal) (t : ℕ) (ps : List Placed)
    → AreNodes t (flat_map (placed_nodes script journal t) ps)
nodes-of script journal t [] = tt
nodes-of script journal t (p ∷ ps) =
    nodes-append t (placed_nodes script journal t p) _
    (nodes-if t (placed_node script journal p)) (nodes-of script journal t ps)

-- ---- the end of a line

pub record EndsLine (x : Turn) (e : events.Event) : Type 0 where
  pub thread : thread_of e ≡ x.thread
  pub history : (h : List Placed) → history_after h e ≡ h
  pub reached : (r : Reached) → reached_after r e ≡ behind (r.lines + 1)
  pub finds : (h : List Placed) → FindsHistory h x e

ends-line : (x : Turn) (l : lines.Line) → EndsLine x (end_event x l)
ends-line x (line.Flush c) = record {
  thread = refl;
  history = λ h. refl;
  reached = λ r. refl;
  finds = λ h. tt;
}
ends-line x (line.Begin a v) = record {
  thread = refl;
  history = λ h. refl;
  reached = λ r. refl;
  finds = λ h. tt;
}
ends-line x (line.End a) = record {
  thread = refl;
  history = λ h. refl;
  reached = λ r. refl;
  finds = λ h. tt;
}
ends-line x (line.Set a v) = record {
  thread = refl;
  history = λ h. refl;
  reached = λ r. refl;
  finds = λ h. tt;
}
ends-line x line.Snapshot = record {
  thread = refl;
  history = λ h. refl;
  reached = λ r. refl;
  finds = λ h. tt;
}
ends-line x (line.Tick n) = record {
  thread = refl;
  history = λ h. refl;
  reached = λ r. refl;
  finds = λ h. tt;
}

-- ---- what a line finds

-- what a line places
abbrev pub placed_if : Turn → Bool → List Placed
placed_if x shared = if shared then record { thread = x.thread; line = x.number } ∷ [] else []

abbrev pub placed_by : Script → Turn → List Placed
placed_by script x = placed_if x (is_process_line script x.line)

-- A process line finds all before its place, and a line that looks what it has seen.
pub record FindsAs (script : Script) (h : List Placed) (x : Turn) : Type 0 where
  pub own : is_process_line script x.line ≡ true → length h ≡ x.note.seen - 1
  pub looks : is_process_line script x.line ≡ false → is_looking script x.line x.note ≡ true
      → length h ≡ x.note.seen

-- ---- events one after another

-- these run from one progress to another
pub record Run (script : Script) (journal : Journal) (p : Progress) (es : List events.Event)
    (q : Progress) : Type 0 where
  pub next : AreNext script journal p es
  pub ends : progress_behind p es ≡ q

module _ (script : Script) (journal : Journal) where
  next-append : (p : Progress) (es fs : List events.Event) → AreNext script journal p es
      → AreNext script journal (progress_behind p es) fs → AreNext script journal p (es ++ fs)
  next-append p [] fs one two = two
  next-append p (e ∷ es) fs one two = (one.0, next-append (progress_after p e) es fs one.1 two)

  behind-append : (p : Progress) (es fs : List events.Event)
      → progress_behind p (es ++ fs) ≡ progress_behind (progress_behind p es) fs
  behind-append p [] fs = refl
  behind-append p (e ∷ es) fs = behind-append (progress_after p e) es fs

  pub run-append : (p q r : Progress) (es fs : List events.Event) → Run script journal p es q
      → Run script journal q fs r → Run script journal p (es ++ fs) r
  run-append p q r es fs one two = record {
    next = next-append p es fs one.next
        (subst (λ s. AreNext script journal s fs) (sym one.ends) two.next);
    ends = behind-append p es fs ∙ ap (λ s. progress_behind s fs) one.ends ∙ two.ends;
  }

-- ---- one event

module _ (script : Script) (journal : Journal) (ths : List Reached) (n : ℕ) (x : Turn)
    (below : x.thread < length ths)
    (line_is : turn_behind script journal x.thread n ≡ Some x) where
  -- the thread is within its line
  abbrev within_line : List Placed → ℕ → Progress
  within_line h k = record {
    history = h;
    threads = set ths x.thread (record { lines = n; events = k });
  }

  reads-same : (r : Reached) → get_or (set ths x.thread r) x.thread (behind 0) ≡ r
  reads-same r = get_or-set_same ths x.thread r (behind 0) below

  event-after : (h : List Placed) (k : ℕ) (e : events.Event) → thread_of e ≡ x.thread
      → progress_after (within_line h k) e ≡ record {
        history = history_after h e;
        threads = set ths x.thread (reached_after (record { lines = n; events = k }) e);
      }
  event-after h k e is =
      let r : Reached = record { lines = n; events = k } in
      ap (λ u. record {
        history = history_after h e;
        threads = set (set ths x.thread r) u
            (reached_after (get_or (set ths x.thread r) u (behind 0)) e);
      }) is
      ∙ ap (λ (s : Reached). record {
        history = history_after h e;
        threads = set (set ths x.thread r) x.thread (reached_after s e);
      }) (reads-same r)
      ∙ ap (λ (ts : List Reached). record { history = history_after h e; threads = ts })
      (set-set ths x.thread r (reached_after r e))

  event-next : (h : List Placed) (k : ℕ) (e : events.Event) → thread_of e ≡ x.thread
      → slice_get (events_of script journal x) k ≡ Some e → FindsHistory h x e
      → IsNext script journal (within_line h k) e
  event-next h k e is here finds =
      let r : Reached = record { lines = n; events = k } in
      let there : List Reached = set ths x.thread r in
      let long = length-set ths x.thread r in
      record {
        within = subst (λ u. u < length there) (sym is) (omega (arith, long, below));
        turn = x;
        line = ap (λ u. turn_behind script journal u (get_or there u (behind 0)).lines) is
            ∙ ap (λ (s : Reached). turn_behind script journal x.thread s.lines) (reads-same r)
            ∙ line_is;
        event = ap (λ u. slice_get (events_of script journal x) (get_or there u (behind 0)).events)
            is
            ∙ ap (λ (s : Reached). slice_get (events_of script journal x) s.events) (reads-same r)
            ∙ here;
        finds = finds;
      }

  -- ---- the nodes and the end

  -- behind the line
  abbrev behind_line : List Placed → Progress
  behind_line h = record { history = h; threads = set ths x.thread (behind (n + 1)) }

  nodes-run : (h : List Placed) (k : ℕ) (pre ns : List events.Event) (e : events.Event)
      → EndsLine x e → AreNodes x.thread ns
      → events_of script journal x ≡ pre ++ (ns ++ e ∷ []) → length pre ≡ k
      → Run script journal (within_line h k) (ns ++ e ∷ []) (behind_line h)
  nodes-run h k pre [] e end nodes whole long = record {
    next = (
      event-next h k e end.thread
          (ap (λ es. slice_get es k) whole
          ∙ ap (slice_get (pre ++ e ∷ [])) (sym long)
          ∙ seam pre e []) (end.finds h),
      tt,
    );
    ends = event-after h k e end.thread
        ∙ (λ j. record {
          history = end.history h j;
          threads = set ths x.thread (end.reached (record { lines = n; events = k }) j);
        });
  }
  nodes-run h k pre (m ∷ ns) e end nodes whole long =
      let is : thread_of m ≡ x.thread = ap thread_of nodes.0 in
      let after : progress_after (within_line h k) m ≡ within_line h (k + 1) =
      event-after h k m is
      ∙ ap (λ (f : events.Event). record {
        history = history_after h f;
        threads = set ths x.thread (reached_after (record { lines = n; events = k }) f);
      }) nodes.0 in
      let more : length (pre ++ m ∷ []) ≡ k + 1 =
      length_push pre m ∙ ap (λ i. i + 1) long in
      let rest : Run script journal (within_line h (k + 1)) (ns ++ e ∷ []) (behind_line h) =
      nodes-run h (k + 1) (pre ++ m ∷ []) ns e end nodes.1
      (whole ∙ sym (append_assoc pre (m ∷ []) (ns ++ e ∷ []))) more in
      record {
        next = (
          event-next h k m is
              (ap (λ es. slice_get es k) whole
              ∙ ap (slice_get (pre ++ m ∷ (ns ++ e ∷ []))) (sym long)
              ∙ seam pre m (ns ++ e ∷ []))
              (subst (FindsHistory h x) (sym nodes.0) tt),
          subst (λ q. AreNext script journal q (ns ++ e ∷ [])) (sym after) rest.next,
        );
        ends = ap (λ q. progress_behind q (ns ++ e ∷ [])) after ∙ rest.ends;
      }

  -- ---- the whole line

  module _ (at : get_or ths x.thread (behind 0) ≡ behind n) (h : List Placed) where
    abbrev first_if : (shared looking : Bool) → List events.Event
    first_if shared looking = if shared then event.Place x.thread x.number ∷ []
        else (if looking then event.Look x.thread x.number ∷ [] else [])

    -- the nodes of the line
    abbrev line_nodes : List events.Event
    line_nodes = flat_map (placed_nodes script journal x.thread)
        (slice_range journal.ops x.before (seen_before script x))
        ++ node_if x.thread (needs_node script x.line x.note)

    are-nodes : AreNodes x.thread line_nodes
    are-nodes = nodes-append x.thread _ _
        (nodes-of script journal x.thread
        (slice_range journal.ops x.before (seen_before script x)))
        (nodes-if x.thread (needs_node script x.line x.note))

    abbrev last : events.Event
    last = end_event x x.line

    ends-so : EndsLine x last
    ends-so = ends-line x x.line

    whole-if : (shared looking : Bool) → is_process_line script x.line ≡ shared
        → is_looking script x.line x.note ≡ looking
        → events_of script journal x ≡ first_if shared looking ++ (line_nodes ++ last ∷ [])
    whole-if shared looking es el =
        let nodes : List events.Event = flat_map (placed_nodes script journal x.thread)
        (slice_range journal.ops x.before (seen_before script x)) in
        let own : List events.Event = node_if x.thread (needs_node script x.line x.note) in
        (λ j. ((first_if (es j) (el j) ++ nodes) ++ own) ++ last ∷ [])
        ∙ ap (λ ys. ys ++ last ∷ []) (append_assoc (first_if shared looking) nodes own)
        ∙ append_assoc (first_if shared looking) (nodes ++ own) (last ∷ [])

    first-run : (h2 : List Placed) (e : events.Event) → thread_of e ≡ x.thread
        → FindsHistory h x e → history_after h e ≡ h2
        → reached_after (behind n) e ≡ record { lines = n; events = 1 }
        → events_of script journal x ≡ e ∷ (line_nodes ++ last ∷ [])
        → Run script journal (within_line h 0) (e ∷ (line_nodes ++ last ∷ [])) (behind_line h2)
    first-run h2 e is finds history reached whole =
        let after : progress_after (within_line h 0) e ≡ within_line h2 1 =
        event-after h 0 e is
        ∙ (λ j. record { history = history j; threads = set ths x.thread (reached j) }) in
        let rest : Run script journal (within_line h2 1) (line_nodes ++ last ∷ [])
        (behind_line h2) =
        nodes-run h2 1 (e ∷ []) line_nodes last ends-so are-nodes whole refl in
        record {
          next = (
            event-next h 0 e is (ap (λ es. slice_get es 0) whole) finds,
            subst (λ q. AreNext script journal q (line_nodes ++ last ∷ [])) (sym after)
                rest.next,
          );
          ends = ap (λ q. progress_behind q (line_nodes ++ last ∷ [])) after ∙ rest.ends;
        }

    line-run-if : (shared looking : Bool) → is_process_line script x.line ≡ shared
        → is_looking script x.line x.note ≡ looking
        → (shared ≡ true → length h ≡ x.note.seen - 1)
        → (shared ≡ false → looking ≡ true → length h ≡ x.note.seen)
        → Run script journal (within_line h 0)
        (first_if shared looking ++ (line_nodes ++ last ∷ []))
        (behind_line (h ++ placed_if x shared))
    line-run-if true looking es el own looks =
        first-run (h ++ placed_if x true) (event.Place x.thread x.number) refl (own refl) refl refl
        (whole-if true looking es el)
    line-run-if false true es el own looks =
        first-run (h ++ []) (event.Look x.thread x.number) refl (looks refl refl)
        (sym (append-nil h)) refl (whole-if false true es el)
    line-run-if false false es el own looks =
        subst (λ hs. Run script journal (within_line h 0) (line_nodes ++ last ∷ [])
        (behind_line hs)) (sym (append-nil h))
        (nodes-run h 0 [] line_nodes last ends-so are-nodes (whole-if false false es el) refl)

    pub line-run : FindsAs script h x
        → Run script journal (record { history = h; threads = ths }) (events_of script journal x)
        (behind_line (h ++ placed_by script x))
    line-run finds =
        let start : set ths x.thread (behind n) ≡ ths =
        ap (set ths x.thread) (sym at) ∙ set-get_or ths x.thread (behind 0) in
        let shared = is_process_line script x.line in
        let looking = is_looking script x.line x.note in
        subst (λ es. Run script journal (record { history = h; threads = ths }) es
        (behind_line (h ++ placed_by script x))) (sym (whole-if shared looking refl refl))
        (subst (λ ts. Run script journal (record { history = h; threads = ts })
        (first_if shared looking ++ (line_nodes ++ last ∷ []))
        (behind_line (h ++ placed_by script x))) start
        (line-run-if shared looking refl refl finds.own finds.looks))

-- ---- lines one after another

module _ (script : Script) (journal : Journal) where
  -- each of these lines is the next of its thread
  abbrev pub LinesFollow : List ℕ → List Turn → Type 0
  LinesFollow ns [] = Unit {0}
  LinesFollow ns (x ∷ xs) = (x.thread < length ns)
      × (turn_behind script journal x.thread (get_or ns x.thread 0) ≡ Some x)
      × LinesFollow (set ns x.thread (get_or ns x.thread 0 + 1)) xs

  -- how many lines of each thread are done behind these
  abbrev pub lines_behind : List ℕ → List Turn → List ℕ
  lines_behind ns [] = ns
  lines_behind ns (x ∷ xs) = lines_behind (set ns x.thread (get_or ns x.thread 0 + 1)) xs

  -- each finds the history that it has seen
  abbrev pub HistoryFinds : List Placed → List Turn → Type 0
  HistoryFinds h [] = Unit {0}
  HistoryFinds h (x ∷ xs) = FindsAs script h x × HistoryFinds (h ++ placed_by script x) xs

  abbrev pub history_behind : List Placed → List Turn → List Placed
  history_behind h [] = h
  history_behind h (x ∷ xs) = history_behind (h ++ placed_by script x) xs

  abbrev pub progress_of : List Placed → List ℕ → Progress
  progress_of h ns = record { history = h; threads = map behind ns }

  pub lines-run : (h : List Placed) (ns : List ℕ) (xs : List Turn) → LinesFollow ns xs
      → HistoryFinds h xs
      → Run script journal (progress_of h ns) (flat_map (events_of script journal) xs)
      (progress_of (history_behind h xs) (lines_behind ns xs))
  lines-run h ns [] follow finds = record { next = tt; ends = refl }
  lines-run h ns (x ∷ xs) follow finds =
      let n : ℕ = get_or ns x.thread 0 in
      let long = length-map ns behind in
      let below : x.thread < length (map behind ns) =
      (let inside = follow.0 in omega (arith, long, inside)) in
      let one = line-run script journal (map behind ns) n x below follow.1
      (get_or-map behind ns x.thread 0 (behind 0) follow.0) h finds.0 in
      let mid : Progress = progress_of (h ++ placed_by script x) (set ns x.thread (n + 1)) in
      run-append script journal (progress_of h ns) mid _ (events_of script journal x)
      (flat_map (events_of script journal) xs)
      (subst (λ ts. Run script journal (progress_of h ns) (events_of script journal x)
      (record { history = h ++ placed_by script x; threads = ts }))
      (sym (map-set behind ns x.thread (n + 1))) one)
      (lines-run (h ++ placed_by script x) (set ns x.thread (n + 1)) xs follow.2 finds.1)
