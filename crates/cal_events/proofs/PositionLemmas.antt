-- Where an event stands among those of its line.
use Rattle.std.proofs.Common.{◌≡◌, ℕ, suc, zero, ◌+◌, ◌-◌, ◌<◌, ◌≤◌, Bool, true, false, List, []}
use Rattle.std.proofs.Common.{◌∷◌, ◌++◌, length, ap, sym, refl, ◌∙◌, arith, ⊎_elim, ◌⊎◌, inl, inr}
use Rattle.std.proofs.Common.{append_assoc, if◌then◌else◌}
use Rattle.std.specs.Prelude.{Option, Some, None, flat_map, slice_get, slice_range}
use Rattle.std.specs.List.{enumerate_from}
use Rattle.std.proofs.lemmas.List.{length-append}
use Rattle.cal_board.specs.Blackboard.{Blackboard}
use Rattle.cal_events.specs.Nodes.{node_paths, own_path, path_if, placed_path}
use Rattle.cal_run.specs.History.{placed_operation, process_board}
use Rattle.cal_run.specs.Lines.{is_process_line, operation_of}
use Rattle.cal_run.specs.Steps.{ThreadState, acted_on}
use Rattle.cal_run.specs.declared.operation.Operation.{Operation}
use Rattle.cal_script.specs.declared.journal.Journal.{Journal}
use Rattle.cal_script.specs.declared.journal.Placed.{Placed}
use Rattle.cal_script.specs.declared.script.Line as lines
use Rattle.cal_script.specs.declared.script.Line.TheVariants as line
use Rattle.cal_script.specs.declared.script.Script.{Script}
use Rattle.cal_value.specs.declared.variant.Variant.{Variant}
use Rattle.cal_world.proofs.EventLemmas.{AreNodes, nodes-if, nodes-of}
use Rattle.cal_world.specs.Events.{end_event, events_of, first_events, is_looking, needs_node}
use Rattle.cal_world.specs.Events.{node_if, placed_node, placed_nodes, seen_before}
use Rattle.cal_world.specs.declared.event.Event as events
use Rattle.cal_world.specs.declared.event.Event.TheVariants as event
use Rattle.cal_world.specs.declared.turn.Turn.{Turn}

-- which part of a line's events an event is of: the first, the nodes, or the end
abbrev pub rank : events.Event → ℕ
rank (event.Place t l) = 0
rank (event.Look t l) = 0
rank (event.Node t) = 1
rank (event.Flush t l) = 2
rank (event.Own t l) = 2

abbrev AreRanked : ℕ → List events.Event → Type 0
AreRanked r [] = Unit {0}
AreRanked r (e ∷ es) = (rank e ≡ r) × AreRanked r es

ranked-at : (r : ℕ) (es : List events.Event) (k : ℕ) (e : events.Event) → AreRanked r es
    → slice_get es k ≡ Some e → rank e ≡ r
ranked-at r [] k e all is = absurd (let no : None ≡ Some e = is in cc)
ranked-at r (f ∷ es) zero e all is =
    ap rank (let same : Some e ≡ Some f = sym is in cc) ∙ all.0
ranked-at r (f ∷ es) (suc k) e all is = ranked-at r es k e all.1 is

ranked-append : (r : ℕ) (es fs : List events.Event) → AreRanked r es → AreRanked r fs
    → AreRanked r (es ++ fs)
ranked-append r [] fs a b = b
ranked-append r (e ∷ es) fs a b = (a.0, ranked-append r es fs a.1 b)

nodes-ranked : (t : ℕ) (es : List events.Event) → AreNodes t es → AreRanked 1 es
nodes-ranked t [] nodes = tt
nodes-ranked t (e ∷ es) nodes = (ap rank nodes.0, nodes-ranked t es nodes.1)

-- an item of two lists is one of the first or of the second
split : {A : Type 0} (xs ys : List A) (k : ℕ) (x : A) → slice_get (xs ++ ys) k ≡ Some x
    → ((k < length xs) × (slice_get xs k ≡ Some x))
    ⊎ ((length xs ≤ k) × (slice_get ys (k - length xs) ≡ Some x))
split [] ys k x is =
    inr (omega arith, ap (slice_get ys) (let e : k - 0 ≡ k = omega arith in e) ∙ is)
split (y ∷ xs) ys zero x is = inl (omega arith, is)
split (y ∷ xs) ys (suc k) x is = ⊎_elim
    (λ early. inl (let less = early.0 in omega (arith, less), early.1))
    (λ late. inr (
      let more = late.0 in omega (arith, more),
      ap (slice_get ys) (let e : suc k - suc (length xs) ≡ k - length xs = omega arith in e)
          ∙ late.1,
    ))
    (split xs ys k x is)

module _ (script : Script) (journal : Journal) (x : Turn) where
  -- the nodes of a line
  abbrev pub line_nodes : List events.Event
  line_nodes = flat_map (placed_nodes script journal x.thread)
      (slice_range journal.ops x.before (seen_before script x))
      ++ node_if x.thread (needs_node script x.line x.note)

  abbrev pub last_event : events.Event
  last_event = end_event x x.line

  abbrev pub first_count : ℕ
  first_count = length (first_events script x)

  whole : events_of script journal x
      ≡ first_events script x ++ (line_nodes ++ last_event ∷ [])
  whole =
      let some : List events.Event = flat_map (placed_nodes script journal x.thread)
      (slice_range journal.ops x.before (seen_before script x)) in
      let own : List events.Event = node_if x.thread (needs_node script x.line x.note) in
      ap (λ ys. ys ++ last_event ∷ []) (append_assoc (first_events script x) some own)
      ∙ append_assoc (first_events script x) (some ++ own) (last_event ∷ [])

  first-ranked : (b c : Bool) → AreRanked 0 (if b then event.Place x.thread x.number ∷ []
      else (if c then event.Look x.thread x.number ∷ [] else []))
  first-ranked true c = (refl, tt)
  first-ranked false true = (refl, tt)
  first-ranked false false = tt

  end-rank : (l : lines.Line) → rank (end_event x l) ≡ 2
  end-rank (line.Begin a v) = refl
  end-rank (line.End a) = refl
  end-rank (line.Set a v) = refl
  end-rank line.Snapshot = refl
  end-rank (line.Flush c) = refl
  end-rank (line.Tick n) = refl

  line-nodes-ranked : AreRanked 1 line_nodes
  line-nodes-ranked = ranked-append 1 _ _
      (nodes-ranked x.thread _ (nodes-of script journal x.thread
      (slice_range journal.ops x.before (seen_before script x))))
      (nodes-ranked x.thread _ (nodes-if x.thread (needs_node script x.line x.note)))

  module _ (k : ℕ) (e : events.Event) (is : slice_get (events_of script journal x) k ≡ Some e) where
    parts : ((k < first_count) × (slice_get (first_events script x) k ≡ Some e))
        ⊎ ((first_count ≤ k)
        × (slice_get (line_nodes ++ last_event ∷ []) (k - first_count) ≡ Some e))
    parts = split (first_events script x) (line_nodes ++ last_event ∷ []) k e
        (ap (λ es. slice_get es k) (sym whole) ∙ is)

    later : (j : ℕ) → slice_get (line_nodes ++ last_event ∷ []) j ≡ Some e
        → ((j < length line_nodes) × (rank e ≡ 1)) ⊎ ((j ≡ length line_nodes) × (last_event ≡ e))
    later j there = ⊎_elim
        (λ early. inl (early.0, ranked-at 1 line_nodes j e line-nodes-ranked early.1))
        (λ late. inr (end (j - length line_nodes) refl late.0 late.1))
        (split line_nodes (last_event ∷ []) j e there)
      where
        end : (i : ℕ) → j - length line_nodes ≡ i → length line_nodes ≤ j
            → slice_get (last_event ∷ []) i ≡ Some e → (j ≡ length line_nodes) × (last_event ≡ e)
        end zero at less found =
            (omega (arith, at, less), (let same : Some last_event ≡ Some e = found in cc))
        end (suc i) at less found = absurd (let no : None ≡ Some e = found in cc)

    -- a first event is the first of the line
    pub first-at : rank e ≡ 0 → slice_get (first_events script x) k ≡ Some e
    first-at r = ⊎_elim (λ early. early.1)
        (λ late. ⊎_elim (λ node. absurd (let other = node.1 in omega (arith, r, other)))
        (λ end. absurd (let same = ap rank end.1 in let other = end-rank x.line in omega
        (arith, r, same, other)))
        (later (k - first_count) late.1))
        parts

    -- a node is one of the line's
    pub node-at : rank e ≡ 1 → (first_count ≤ k) × (k - first_count < length line_nodes)
    node-at r = ⊎_elim
        (λ early. absurd (let other = ranked-at 0 (first_events script x) k e
        (first-ranked (is_process_line script x.line) (is_looking script x.line x.note)) early.1 in
        omega (arith, r, other)))
        (λ late. (
          late.0,
          ⊎_elim (λ node. node.0)
              (λ end. absurd (let same = ap rank end.1 in let other = end-rank x.line in omega
              (arith, r, same, other)))
              (later (k - first_count) late.1),
        ))
        parts

    -- the end stands behind all nodes
    pub end-at : rank e ≡ 2
        → (first_count ≤ k) × (k - first_count ≡ length line_nodes) × (last_event ≡ e)
    end-at r = ⊎_elim
        (λ early. absurd (let other = ranked-at 0 (first_events script x) k e
        (first-ranked (is_process_line script x.line) (is_looking script x.line x.note)) early.1 in
        omega (arith, r, other)))
        (λ late. ⊎_elim (λ node. absurd (let other = node.1 in omega (arith, r, other)))
        (λ end. (late.0, end.0, end.1))
        (later (k - first_count) late.1))
        parts

-- ---- a line has no more paths than nodes

path-count : (script : Script) (t : ℕ) (needed : Bool) (b : Blackboard Variant)
    (o : Option Operation) → length (path_if script needed b o) ≤ length (node_if t needed)
path-count script t true b None = omega arith
path-count script t false b None = omega arith
path-count script t true b (Some op) = omega arith
path-count script t false b (Some op) = omega arith

module _ (script : Script) (journal : Journal) (history : List Placed) where
  placed-count : (t k : ℕ) (ps : List Placed)
      → length (flat_map (placed_path script journal history) (enumerate_from k ps))
      ≤ length (flat_map (placed_nodes script journal t) ps)
  placed-count t k [] = omega arith
  placed-count t k (p ∷ ps) =
      let one = path-count script t (placed_node script journal p)
      (process_board script history k) (placed_operation script p) in
      let rest = placed-count t (k + 1) ps in
      let a = length-append (placed_path script journal history (k, p))
      (flat_map (placed_path script journal history) (enumerate_from (k + 1) ps)) in
      let b = length-append (placed_nodes script journal t p)
      (flat_map (placed_nodes script journal t) ps) in
      omega (arith, one, rest, a, b)

-- by the journal's history
pub paths-count : (script : Script) (journal : Journal) (x : Turn) (state : ThreadState)
    → length (node_paths script journal journal.ops x state) ≤ length (line_nodes script journal x)
paths-count script journal x state =
    let ps : List Placed = slice_range journal.ops x.before (seen_before script x) in
    let placed = placed-count script journal journal.ops x.thread x.before ps in
    let own = path-count script x.thread (needs_node script x.line x.note)
    (acted_on script journal.ops x.line x.note state) (operation_of x.line) in
    let a = length-append (flat_map (placed_path script journal journal.ops)
    (enumerate_from x.before ps)) (own_path script journal journal.ops x state) in
    let b = length-append (flat_map (placed_nodes script journal x.thread) ps)
    (node_if x.thread (needs_node script x.line x.note)) in
    omega (arith, placed, own, a, b)
