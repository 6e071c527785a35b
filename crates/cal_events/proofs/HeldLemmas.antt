-- Each path of a line's nodes is one that a board holds in the run.
use Rattle.std.proofs.Common.{◌≡◌, ℕ, suc, zero, ◌+◌, ◌-◌, ◌<◌, ◌≤◌, Bool, true, false, List, []}
use Rattle.std.proofs.Common.{◌∷◌, ◌++◌, length, map, take, drop, fold, get_or, ap, subst, sym}
use Rattle.std.proofs.Common.{refl, ◌∙◌, arith, if◌then◌else◌, Contains}
use Rattle.std.specs.Prelude.{Option, Some, None, flat_map, slice_range, zip}
use Rattle.std.specs.List.{enumerate_from}
use Rattle.std.proofs.lemmas.List.{drop_more}
use Rattle.std.proofs.lemmas.List.Elements.{All-append, All-contains, All-contains_itself, All-nil}
use Rattle.std.proofs.lemmas.List.Elements.{Contains-append_left, Contains-append_right}
use Rattle.std.proofs.lemmas.Option.{slice_get-get_or}
use Rattle.cal_board.specs.Blackboard.{Blackboard, nothing_open}
use Rattle.cal_events.proofs.BoardLemmas.{Path, opened, opened-held}
use Rattle.cal_events.proofs.NextLemmas.{IsNextLine}
use Rattle.cal_events.proofs.NodeLemmas.{before-less, own-placed, paths-within, paths_next}
use Rattle.cal_events.proofs.PlacedLemmas.{lines-noted, own-opened, placed-needs}
use Rattle.cal_events.proofs.ThreadLemmas.{done, state_behind}
use Rattle.cal_events.proofs.WalkLemmas.{board-lines, own_of, placed-opened}
use Rattle.cal_events.specs.Keeping.{HasPaths, note_of, noted}
use Rattle.cal_events.specs.Nodes.{own_path, placed_path}
use Rattle.cal_run.specs.History.{board_placed, placed_operation, process_board}
use Rattle.cal_run.specs.Lawful.{Lawful}
use Rattle.cal_run.specs.Lines.{is_process_line, operation_of}
use Rattle.cal_run.specs.Paths.{held_behind, held_by_process, held_by_thread, held_from, held_paths}
use Rattle.cal_run.specs.Paths.{own_operation}
use Rattle.cal_run.specs.Steps.{ThreadState, at_start}
use Rattle.cal_run.specs.declared.operation.Operation.{Operation}
use Rattle.cal_script.specs.declared.journal.Journal.{Journal}
use Rattle.cal_script.specs.declared.journal.LineNote.{LineNote}
use Rattle.cal_script.specs.declared.journal.Placed.{Placed}
use Rattle.cal_script.specs.declared.script.Line.{Line}
use Rattle.cal_script.specs.declared.script.Script.{Script}
use Rattle.cal_value.specs.declared.variant.Variant.{Variant}
use Rattle.cal_world.specs.Events.{seen_before}
use Rattle.cal_world.specs.declared.turn.Turn.{Turn}

-- ---- lists of paths

pub paths-through : (all mid some : List Path) → HasPaths all mid → HasPaths mid some
    → HasPaths all some
paths-through all mid some one two k d below = All-contains (Contains all) mid _ one (two k d below)

paths-left : (xs ys : List Path) → HasPaths (xs ++ ys) xs
paths-left xs ys = paths-within xs (xs ++ ys) xs (Contains-append_left xs ys)
    (All-contains_itself xs)

paths-right : (xs ys zs : List Path) → HasPaths ys zs → HasPaths (xs ++ ys) zs
paths-right xs ys zs has = paths-within ys (xs ++ ys) zs (Contains-append_right xs ys) has

pub paths-of_one : {A : Type 0} (f : A → List Path) (xs : List A) (i : ℕ) (d : A) → i < length xs
    → HasPaths (flat_map f xs) (f (get_or xs i d))
paths-of_one f [] i d below = absurd (omega (arith, below))
paths-of_one f (x ∷ xs) zero d below = paths-left (f x) (flat_map f xs)
paths-of_one f (x ∷ xs) (suc i) d below =
    paths-right (f x) (flat_map f xs) (f (get_or xs i d))
    (paths-of_one f xs i d (omega (arith, below)))

-- each thread's own operations, with notes or without
pub own-all : (script : Script) (ls : List Line) (ns : List LineNote) → length ns ≡ length ls
    → map (own_of script) (zip ls ns) ≡ map (own_operation script) ls
own-all script [] ns long = refl
own-all script (l ∷ ls) [] long = absurd (omega (arith, long))
own-all script (l ∷ ls) (n ∷ ns) long =
    ap (λ os. own_operation script l ∷ os) (own-all script ls ns (omega (arith, long)))

module _ (script : Script) where
  -- what a board holds behind one of many operations
  held-of_one : {A : Type 0} (f : A → Option Operation) (b : Blackboard Variant) (xs : List A)
      (i : ℕ) (d : A) → i < length xs
      → HasPaths (held_from script b (map f xs))
      (held_behind script (fold (λ c y. board_placed script c (f y)) b (take i xs))
      (f (get_or xs i d)))
  held-of_one f b [] i d below = absurd (omega (arith, below))
  held-of_one f b (x ∷ xs) zero d below = paths-left (held_behind script b (f x)) _
  held-of_one f b (x ∷ xs) (suc i) d below =
      paths-right (held_behind script b (f x)) _ _
      (held-of_one f (board_placed script b (f x)) xs i d (omega (arith, below)))

  process-held : (ops : List Placed) (i : ℕ) (d : Placed) → i < length ops
      → HasPaths (held_by_process script ops)
      (opened script (process_board script ops i) (placed_operation script (get_or ops i d)))
  process-held ops i d below =
      let b : Blackboard Variant = process_board script ops i in
      let o : Option Operation = placed_operation script (get_or ops i d) in
      paths-through (held_by_process script ops) (held_behind script b o) (opened script b o)
      (held-of_one (placed_operation script) nothing_open ops i d below)
      (opened-held script b o)

module _ (script : Script) (journal : Journal) (lawful : Lawful script journal) where
  taken-held : (m i : ℕ) → i + m ≤ length journal.ops
      → HasPaths (held_by_process script journal.ops)
      (flat_map (placed_path script journal journal.ops)
      (enumerate_from i (take m (drop i journal.ops))))
  taken-held zero i less = All-nil (Contains (held_by_process script journal.ops))
  taken-held (suc m) i less =
      let d : Placed = record { thread = 0; line = 0 } in
      let p : Placed = get_or journal.ops i d in
      let below : i < length journal.ops = omega (arith, less) in
      subst (λ (ps : List Placed). HasPaths (held_by_process script journal.ops)
      (flat_map (placed_path script journal journal.ops) (enumerate_from i (take (suc m) ps))))
      (sym (drop_more journal.ops i d below))
      (All-append (Contains (held_by_process script journal.ops))
      (placed_path script journal journal.ops (i, p)) _
      (subst (HasPaths (held_by_process script journal.ops))
      (sym (placed-opened script journal (placed-needs script journal lawful) i d below))
      (process-held script journal.ops i d below))
      (taken-held m (i + 1) (omega (arith, less))))

  module _ (t n : ℕ) (x : Turn) (inside : t < length script.threads)
      (line : IsNextLine script journal lawful t n x) where
    abbrev here : ThreadState
    here = state_behind script journal t n

    lines-held : HasPaths (held_by_thread script (get_or script.threads t []))
        (opened script here.board (own_operation script x.line))
    lines-held =
        let zs : List (Line × LineNote) = noted script journal t in
        let l : Line × LineNote = (x.line, x.note) in
        let at : get_or zs n l ≡ l =
        (let same : Some (get_or zs n l) ≡ Some l =
        sym (slice_get-get_or zs n l line.within) ∙ line.at in cc) in
        let behind : HasPaths (held_from script nothing_open (map (own_of script) zs))
        (held_behind script here.board (own_operation script x.line)) =
        subst (λ (b : Blackboard Variant). HasPaths
        (held_from script nothing_open (map (own_of script) zs))
        (held_behind script b (own_operation script x.line)))
        (sym (board-lines script journal.ops at_start (done script journal t n)))
        (subst (λ (k : Line × LineNote). HasPaths
        (held_from script nothing_open (map (own_of script) zs))
        (held_behind script (fold (λ c y. board_placed script c (own_of script y)) nothing_open
        (take n zs)) (own_of script k))) at
        (held-of_one script (own_of script) nothing_open zs n l line.within)) in
        paths-through (held_by_thread script (get_or script.threads t []))
        (held_behind script here.board (own_operation script x.line))
        (opened script here.board (own_operation script x.line))
        (subst (λ (os : List (Option Operation)). HasPaths (held_from script nothing_open os)
        (held_behind script here.board (own_operation script x.line)))
        (own-all script (get_or script.threads t []) (note_of script journal t).lines
        (lines-noted script journal lawful t inside)) behind)
        (opened-held script here.board (own_operation script x.line))

    own-held : (b : Bool) → is_process_line script x.line ≡ b
        → HasPaths (held_paths script journal) (opened script
        (if b then process_board script journal.ops
        (if b then x.note.seen - 1 else x.note.seen) else here.board) (operation_of x.line))
    own-held true e =
        let d : Placed = record { thread = 0; line = 0 } in
        let at = own-placed script journal lawful t n x line e d in
        paths-right (flat_map (held_by_thread script) script.threads) _ _
        (subst (λ (o : Option Operation). HasPaths (held_by_process script journal.ops)
        (opened script (process_board script journal.ops (x.note.seen - 1)) o)) at.1
        (process-held script journal.ops (x.note.seen - 1) d at.0))
    own-held false e =
        paths-through (held_paths script journal) (flat_map (held_by_thread script) script.threads)
        _ (paths-left (flat_map (held_by_thread script) script.threads)
        (held_by_process script journal.ops))
        (paths-through (flat_map (held_by_thread script) script.threads)
        (held_by_thread script (get_or script.threads t [])) _
        (paths-of_one (held_by_thread script) script.threads t [] inside)
        (subst (λ b. HasPaths (held_by_thread script (get_or script.threads t []))
        (opened script here.board (if b then None else operation_of x.line))) e lines-held))

    -- a line's paths are held in the run
    pub line-held : HasPaths (held_paths script journal) (paths_next script journal lawful t n x)
    line-held =
        let less = before-less script journal lawful x here line.rule in
        let up = less.0 in
        let down = less.1 in
        let within = line.rule.within in
        All-append (Contains (held_paths script journal))
        (flat_map (placed_path script journal journal.ops)
        (enumerate_from x.before (slice_range journal.ops x.before (seen_before script x))))
        (own_path script journal journal.ops x here)
        (paths-right (flat_map (held_by_thread script) script.threads) _ _
        (taken-held (seen_before script x - x.before) x.before (omega (arith, up, down, within))))
        (subst (HasPaths (held_paths script journal))
        (sym (own-opened script journal lawful x here line.rule))
        (own-held (is_process_line script x.line) refl))
