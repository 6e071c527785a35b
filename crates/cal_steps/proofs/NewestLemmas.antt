-- Of the paths that a board holds behind an operation, the one that it opened alone may lack a node.
use Rattle.std.proofs.Common.{◌≡◌, ℕ, suc, zero, ◌+◌, ◌-◌, ◌<◌, ◌≤◌, Bool, true, false, ◌&&◌, List, []}
use Rattle.std.proofs.Common.{◌∷◌, ◌++◌, filter, length, take, drop, get_or, ap, subst, sym, refl}
use Rattle.std.proofs.Common.{◌∙◌, arith, cond, if◌then◌else◌, append_assoc, Contains, true≢false}
use Rattle.std.specs.Prelude.{Option, Some, None, flat_map, option_and_then, slice_get, slice_range}
use Rattle.std.specs.List.{enumerate_from}
use Rattle.std.proofs.lemmas.Bool.{and_parts}
use Rattle.std.proofs.lemmas.List.{get_or-drop, get_or-take, length-append, length-drop}
use Rattle.std.proofs.lemmas.List.{length-take-le, take-append-le, take-take, take_all}
use Rattle.std.proofs.lemmas.List.Elements.{All-cons, All-nil, Contains-append_left, Contains-push}
use Rattle.cal_board.specs.Blackboard.{Blackboard}
use Rattle.cal_events.proofs.BoardLemmas.{HasBoard, Path, board-next, board-paths, opens, opens_on}
use Rattle.cal_events.proofs.BoardLemmas.{path-held}
use Rattle.cal_events.proofs.NextLemmas.{Rules, noted_with}
use Rattle.cal_events.proofs.NodeLemmas.{before-less, board-within}
use Rattle.cal_events.proofs.PlacedLemmas.{needs-opens, placed-needs}
use Rattle.cal_events.proofs.PositionLemmas.{line_nodes}
use Rattle.cal_events.proofs.WalkLemmas.{HasWalked, process-next, walked-more}
use Rattle.cal_events.specs.Keeping.{HasPaths}
use Rattle.cal_events.specs.Nodes.{node_paths, own_path, path_behind, path_if, placed_path}
use Rattle.cal_run.specs.History.{board_placed, board_with, placed_operation, process_board}
use Rattle.cal_run.specs.Lawful.{Lawful}
use Rattle.cal_run.specs.Lines.{is_process_line, is_such, line_at, operation_of}
use Rattle.cal_run.specs.Paths.{paths_of}
use Rattle.cal_run.specs.Steps.{ThreadState, acted_on}
use Rattle.cal_run.specs.declared.operation.Operation.{Operation}
use Rattle.cal_script.specs.declared.journal.Journal.{Journal}
use Rattle.cal_script.specs.declared.journal.LineNote.{LineNote}
use Rattle.cal_script.specs.declared.journal.Placed.{Placed}
use Rattle.cal_script.specs.declared.script.Line.{Line}
use Rattle.cal_script.specs.declared.script.Script.{Script}
use Rattle.cal_steps.specs.Newest.{IsNewest}
use Rattle.cal_steps.specs.NodePlaces.{NeedsNode, needing}
use Rattle.cal_value.specs.declared.variant.Variant.{Variant}
use Rattle.cal_world.specs.Events.{needs_node, needs_node_if, node_if, note_at, opens_path}
use Rattle.cal_world.specs.Events.{placed_node, placed_nodes, seen_before}
use Rattle.cal_world.specs.declared.event.Event as events
use Rattle.cal_world.specs.declared.turn.Turn.{Turn}

-- ---- an operation that opens a path

pub newest-behind : (script : Script) (paths : List Path) (b : Blackboard Variant) (op : Operation)
    → HasBoard script paths b → opens script b op ≡ true
    → IsNewest paths (paths_of script (board_with script b op)) (path_behind script b op)
newest-behind script paths b op has opened =
    let q : Path = path_behind script b op in
    let more : List Path = paths ++ q ∷ [] in
    let held : HasPaths (paths_of script (board_with script b op)) (q ∷ []) =
    subst (λ (o : Bool). HasPaths (paths_of script (board_with script b op))
    (path_if script o b (Some op))) opened (path-held script b op) in
    record {
      others = board-paths script more (board_with script b op)
          (board-next script b op more
          (board-within script paths more (λ p there. Contains-append_left paths (q ∷ []) p there)
          b has)
          (subst (λ (o : Bool). HasPaths more (path_if script o b (Some op))) (sym opened)
          (All-cons (Contains more) q [] (Contains-push paths q) (All-nil (Contains more)))));
      among = held 0 q (omega arith);
    }

-- the same of an operation that there may be
pub newest-placed : (script : Script) (paths : List Path) (b : Blackboard Variant)
    (o : Option Operation) → HasBoard script paths b → opens_on script b o ≡ true
    → (q : Path) × (path_if script true b o ≡ q ∷ [])
    × IsNewest paths (paths_of script (board_placed script b o)) q
newest-placed script paths b None has opened = absurd (true≢false (sym opened))
newest-placed script paths b (Some op) has opened =
    (path_behind script b op, refl, newest-behind script paths b op has opened)

-- ---- lists

-- the item behind the first of two lists
pub get-behind : {A : Type 0} (xs ys : List A) (y : A) (n : ℕ) → n ≡ length xs
    → slice_get (xs ++ y ∷ ys) n ≡ Some y
get-behind [] ys y zero e = refl
get-behind [] ys y (suc n) e = absurd (omega (arith, e))
get-behind (x ∷ xs) ys y zero e = absurd (omega (arith, e))
get-behind (x ∷ xs) ys y (suc n) e = get-behind xs ys y n (omega (arith, e))

-- numbered items up to a place, the one there, and those behind it
numbered-split : {A R : Type 0} (f : ℕ × A → List R) (k i m : ℕ) (xs : List A) (d : A)
    → i < length xs → m ≡ k + i
    → flat_map f (enumerate_from k xs)
    ≡ flat_map f (enumerate_from k (take i xs))
    ++ (f (m, get_or xs i d) ++ flat_map f (enumerate_from (m + 1) (drop (suc i) xs)))
numbered-split f k i m [] d below e = absurd (omega (arith, below))
numbered-split f k zero m (x ∷ xs) d below e =
    let here : k ≡ m = omega (arith, e) in
    λ j. f (here j, x) ++ flat_map f (enumerate_from (here j + 1) xs)
numbered-split f k (suc i) m (x ∷ xs) d below e =
    ap (λ rs. f (k, x) ++ rs)
    (numbered-split f (k + 1) i m xs d (omega (arith, below)) (omega (arith, e)))
    ∙ sym (append_assoc (f (k, x)) (flat_map f (enumerate_from (k + 1) (take i xs))) _)

-- ---- the paths of places

module _ (script : Script) (journal : Journal) where
  -- what needs a node is an operation
  pub needs-some : (p : Placed) → placed_node script journal p ≡ true
      → (op : Operation) × (placed_operation script p ≡ Some op)
  needs-some p = by (line_at script p.thread p.line) (note_at journal.threads p)
    where
      such : (o : Option Operation) → is_such (opens_path script) o ≡ true
          → (op : Operation) × (o ≡ Some op)
      such None e = absurd (true≢false (sym e))
      such (Some op) e = (op, refl)

      by : (l : Option Line) (n : Option LineNote) → needs_node_if script l n ≡ true
          → (op : Operation) × (option_and_then operation_of l ≡ Some op)
      by None n e = absurd (true≢false (sym e))
      by (Some l) None e = absurd (true≢false (sym e))
      by (Some l) (Some n) e = such (operation_of l) (and_parts _ _ e).1

  -- as many paths as operations that need a node
  pub paths-needed : (history : List Placed) (k : ℕ) (ps : List Placed)
      → length (flat_map (placed_path script journal history) (enumerate_from k ps))
      ≡ length (filter (placed_node script journal) ps)
  paths-needed history k [] = refl
  paths-needed history k (p ∷ ps) =
      by (placed_node script journal p) (placed_operation script p) (needs-some p)
      (paths-needed history (k + 1) ps)
    where
      by : (b : Bool) (o : Option Operation)
          → (b ≡ true → (op : Operation) × (o ≡ Some op))
          → length (flat_map (placed_path script journal history) (enumerate_from (k + 1) ps))
          ≡ length (filter (placed_node script journal) ps)
          → length (path_if script b (process_board script history k) o
          ++ flat_map (placed_path script journal history) (enumerate_from (k + 1) ps))
          ≡ length (cond b (p ∷ filter (placed_node script journal) ps)
          (filter (placed_node script journal) ps))
      by true None some same =
          absurd (let found = some refl in let no : None ≡ Some found.0 = found.1 in cc)
      by true (Some op) some same = ap suc same
      by false None some same = same
      by false (Some op) some same = same

  -- as many nodes
  pub nodes-needed : (t : ℕ) (ps : List Placed)
      → length (flat_map (placed_nodes script journal t) ps)
      ≡ length (filter (placed_node script journal) ps)
  nodes-needed t [] = refl
  nodes-needed t (p ∷ ps) = by (placed_node script journal p) (nodes-needed t ps)
    where
      by : (b : Bool) → length (flat_map (placed_nodes script journal t) ps)
          ≡ length (filter (placed_node script journal) ps)
          → length (node_if t b ++ flat_map (placed_nodes script journal t) ps)
          ≡ length (cond b (p ∷ filter (placed_node script journal) ps)
          (filter (placed_node script journal) ps))
      by true rest = ap suc rest
      by false rest = rest

-- ---- the node of a place

module _ (script : Script) (journal : Journal) (lawful : Lawful script journal) (paths : List Path)
    (x : Turn) (state : ThreadState) (j : ℕ)
    (inside : seen_before script x ≤ length journal.ops)
    (walked : HasWalked script journal.ops paths x.before)
    (made : HasPaths paths (take j (node_paths script journal journal.ops x state))) where
  abbrev ops : List Placed
  ops = journal.ops

  abbrev f : ℕ × Placed → List Path
  f = placed_path script journal ops

  -- what the line takes in
  abbrev taken_in : List Placed
  taken_in = slice_range ops x.before (seen_before script x)

  abbrev taken_paths : List Path
  taken_paths = flat_map f (enumerate_from x.before taken_in)

  module _ (place : ℕ) (is : NeedsNode script journal ops x.before (seen_before script x) j place)
      (d : Placed) where
    abbrev i : ℕ
    i = place - x.before

    abbrev b : Blackboard Variant
    b = process_board script ops place

    abbrev o : Option Operation
    o = placed_operation script (get_or ops place d)

    abbrev front : List Path
    front = flat_map f (enumerate_from x.before (take i taken_in))

    at : x.before + i ≡ place
    at = (let late = is.late in omega (arith, late))

    early : place < length ops
    early = (let less = is.early in omega (arith, less, inside))

    below : i < length taken_in
    below =
        let late = is.late in
        let less = is.early in
        let long = length-drop x.before ops in
        let few = length-take-le (seen_before script x - x.before) (drop x.before ops)
        (omega (arith, long, late, less, inside)) in
        omega (arith, few, late, less)

    here : get_or taken_in i d ≡ get_or ops place d
    here = get_or-take (seen_before script x - x.before) (drop x.before ops) i d
        (let late = is.late in let less = is.early in omega (arith, late, less))
        ∙ get_or-drop x.before ops i d
        ∙ ap (λ (m : ℕ). get_or ops m d) at

    taken-front : take i taken_in ≡ take i (drop x.before ops)
    taken-front = take-take i (seen_before script x - x.before) (drop x.before ops)
        (let less = is.early in omega (arith, less))

    -- what comes behind
    abbrev back : List Path
    back = flat_map f (enumerate_from (place + 1) (drop (suc i) taken_in))

    abbrev own : List Path
    own = own_path script journal ops x state

    -- so many paths come before
    many : length front ≡ j
    many = paths-needed script journal ops x.before (take i taken_in)
        ∙ ap (λ (ps : List Placed). length (filter (placed_node script journal) ps)) taken-front
        ∙ is.before

    parts : node_paths script journal ops x state
        ≡ front ++ ((f (place, get_or taken_in i d) ++ back) ++ own)
    parts = ap (λ (ps : List Path). ps ++ own)
        (numbered-split f x.before i place taken_in d below (sym at))
        ∙ append_assoc front (f (place, get_or taken_in i d) ++ back) own

    front-made : take j (node_paths script journal ops x state) ≡ front
    front-made = ap (take j) parts
        ∙ take-append-le j front ((f (place, get_or taken_in i d) ++ back) ++ own)
        (let long = many in omega (arith, long))
        ∙ take_all j front (let long = many in omega (arith, long))

    has : HasWalked script ops paths place
    has = subst (HasWalked script ops paths) at
        (walked-more script journal (placed-needs script journal lawful) paths i x.before
        (let less = early in let to = at in omega (arith, less, to))
        (subst (λ (ps : List Placed). HasPaths paths (flat_map f (enumerate_from x.before ps)))
        taken-front (subst (HasPaths paths) front-made made))
        walked)

    opened : opens_on script b o ≡ true
    opened = sym (placed-needs script journal lawful place d early) ∙ is.needs d

    found : (q : Path) × (path_if script true b o ≡ q ∷ [])
        × IsNewest paths (paths_of script (board_placed script b o)) q
    found = newest-placed script paths b o has.board opened

    one : f (place, get_or taken_in i d) ≡ found.0 ∷ []
    one = ap (λ (p : Placed). f (place, p)) here
        ∙ ap (λ (n : Bool). path_if script n b o) (is.needs d)
        ∙ found.1

    pub newest-of_place : (q : Path)
        × (slice_get (node_paths script journal ops x state) j ≡ Some q)
        × IsNewest paths (paths_of script (process_board script ops (place + 1))) q
    newest-of_place = (
      found.0,
      ap (λ (ps : List Path). slice_get ps j)
          (parts ∙ ap (λ (r : List Path). front ++ ((r ++ back) ++ own)) one)
          ∙ get-behind front (back ++ own) found.0 j (sym many),
      subst (λ (c : Blackboard Variant). IsNewest paths (paths_of script c) found.0)
          (sym (process-next script ops place d early)) found.2,
    )

  -- ---- the line's own node

  module _ (few : needing script journal ops x.before (seen_before script x) ≤ j)
      (more : j < length (line_nodes script journal x))
      (rule : Rules script journal (noted_with x state))
      (mine : HasBoard script paths state.board) where
    abbrev acted : Blackboard Variant
    acted = acted_on script ops x.line x.note state

    -- all that the line takes in has its nodes, and so its own is needed
    last : (needs_node script x.line x.note ≡ true) × (length taken_paths ≡ j)
    last = by (needs_node script x.line x.note) refl
        (subst (λ (n : ℕ). j < n)
        (length-append (flat_map (placed_nodes script journal x.thread) taken_in)
        (node_if x.thread (needs_node script x.line x.note))) more)
      where
        nodes : length (flat_map (placed_nodes script journal x.thread) taken_in)
            ≡ needing script journal ops x.before (seen_before script x)
        nodes = nodes-needed script journal x.thread taken_in

        needed : length taken_paths ≡ needing script journal ops x.before (seen_before script x)
        needed = paths-needed script journal ops x.before taken_in

        by : (n : Bool) → needs_node script x.line x.note ≡ n
            → j < length (flat_map (placed_nodes script journal x.thread) taken_in)
            + length (node_if x.thread n)
            → (needs_node script x.line x.note ≡ true) × (length taken_paths ≡ j)
        by true e less = (
          e,
          (let a = nodes in let b = needed in omega (arith, less, a, b, few)),
        )
        by false e less = absurd (let a = nodes in omega (arith, less, a, few))

    taken-made : take j (node_paths script journal ops x state) ≡ taken_paths
    taken-made =
        let long = last.1 in
        take-append-le j taken_paths (own_path script journal ops x state) (omega (arith, long))
        ∙ take_all j taken_paths (omega (arith, long))

    all-walked : HasWalked script ops paths (seen_before script x)
    all-walked =
        let up = (before-less script journal lawful x state rule).0 in
        let to : x.before + (seen_before script x - x.before) ≡ seen_before script x =
        omega (arith, up) in
        subst (HasWalked script ops paths) to
        (walked-more script journal (placed-needs script journal lawful) paths
        (seen_before script x - x.before) x.before (omega (arith, to, inside))
        (subst (HasPaths paths) taken-made made) walked)

    has-acted : HasBoard script paths acted
    has-acted = by (is_process_line script x.line) refl
      where
        by : (b : Bool) → is_process_line script x.line ≡ b
            → HasBoard script paths (if b
            then process_board script ops (if b then x.note.seen - 1 else x.note.seen)
            else state.board)
        by true e = (subst (HasWalked script ops paths)
            (ap (λ (b : Bool). if b then x.note.seen - 1 else x.note.seen) e) all-walked).board
        by false e = mine

    own-found : (q : Path) × (path_if script true acted (operation_of x.line) ≡ q ∷ [])
        × IsNewest paths (paths_of script (board_placed script acted (operation_of x.line))) q
    own-found = newest-placed script paths acted (operation_of x.line) has-acted
        (sym (needs-opens script journal lawful x state rule) ∙ last.0)

    pub newest-own : (q : Path)
        × (slice_get (node_paths script journal ops x state) j ≡ Some q)
        × IsNewest paths (paths_of script (board_placed script acted (operation_of x.line))) q
    newest-own = (
      own-found.0,
      ap (λ (r : List Path). slice_get (taken_paths ++ r) j)
          (ap (λ (n : Bool). path_if script n acted (operation_of x.line)) last.0
          ∙ own-found.1)
          ∙ get-behind taken_paths [] own-found.0 j (sym last.1),
      own-found.2,
    )
