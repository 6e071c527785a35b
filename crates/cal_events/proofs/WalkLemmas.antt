-- What boards hold behind lines and behind the first of the history, one more at a time.
use Rattle.std.proofs.Common.{◌≡◌, ℕ, suc, zero, ◌+◌, ◌<◌, ◌≤◌, List, [], ◌∷◌, ◌++◌, length, map}
use Rattle.std.proofs.Common.{take, drop, fold, get_or, ap, subst, sym, refl, ◌∙◌, arith}
use Rattle.std.proofs.Common.{append_assoc, append-nil, Contains}
use Rattle.std.specs.Prelude.{Option, Some, None, flat_map}
use Rattle.std.specs.List.{enumerate_from}
use Rattle.std.proofs.lemmas.List.{drop_more, take_more}
use Rattle.std.proofs.lemmas.List.Elements.{All-append, All-nil}
use Rattle.std.proofs.lemmas.List.Sums.{fold_more}
use Rattle.cal_board.specs.Blackboard.{Blackboard, nothing_open}
use Rattle.cal_events.proofs.BoardLemmas.{HasBoard, Path, board-paths, opened, opened-next}
use Rattle.cal_events.proofs.BoardLemmas.{opens_on}
use Rattle.cal_events.specs.Keeping.{HasPaths}
use Rattle.cal_events.specs.Nodes.{path_if, placed_path}
use Rattle.cal_run.proofs.LawLemmas.{all-back, all-front}
use Rattle.cal_run.proofs.PathLemmas.{own-board}
use Rattle.cal_run.specs.History.{board_placed, placed_operation, process_board}
use Rattle.cal_run.specs.Paths.{held_behind, held_by_process, held_from, own_operation}
use Rattle.cal_run.specs.Runs.{state_after_lines, taken_from}
use Rattle.cal_run.specs.Steps.{ThreadState, at_start, previous_after, state_after, taken_in}
use Rattle.cal_run.specs.declared.operation.Operation.{Operation}
use Rattle.cal_script.specs.declared.journal.Journal.{Journal}
use Rattle.cal_script.specs.declared.journal.LineNote.{LineNote}
use Rattle.cal_script.specs.declared.journal.Placed.{Placed}
use Rattle.cal_script.specs.declared.script.Channel.{Channel}
use Rattle.cal_script.specs.declared.script.Line.{Line}
use Rattle.cal_script.specs.declared.script.Script.{Script}
use Rattle.cal_value.specs.declared.variant.Variant.{Variant}
use Rattle.cal_world.specs.Events.{placed_node}

module _ (script : Script) where
  -- ---- one operation more

  held-push : {A : Type 0} (f : A → Option Operation) (b : Blackboard Variant) (xs : List A)
      (x : A) → held_from script b (map f (xs ++ x ∷ []))
      ≡ held_from script b (map f xs)
      ++ held_behind script (fold (λ c y. board_placed script c (f y)) b xs) (f x)
  held-push f b [] x = append-nil (held_behind script b (f x))
  held-push f b (y ∷ xs) x =
      ap (λ ps. held_behind script b (f y) ++ ps)
      (held-push f (board_placed script b (f y)) xs x)
      ∙ sym (append_assoc (held_behind script b (f y)) _ _)

  -- what a board holds behind an operation is there with the board
  behind-has : (paths : List Path) (b : Blackboard Variant) (o : Option Operation)
      → HasBoard script paths (board_placed script b o) → HasPaths paths (held_behind script b o)
  behind-has paths b None has = All-nil (Contains paths)
  behind-has paths b (Some op) has = board-paths script paths (board_placed script b (Some op)) has

  -- ---- the history

  module _ (ops : List Placed) where
    -- the process's board behind the first operations, and what it held so far
    pub record HasWalked (paths : List Path) (count : ℕ) : Type 0 where
      pub board : HasBoard script paths (process_board script ops count)
      pub held : HasPaths paths (held_by_process script (take count ops))

    pub process-next : (i : ℕ) (d : Placed) → i < length ops
        → process_board script ops (i + 1)
        ≡ board_placed script (process_board script ops i)
        (placed_operation script (get_or ops i d))
    process-next i d below = fold_more (λ c p. board_placed script c (placed_operation script p))
        nothing_open ops i d below

    pub held-next : (i : ℕ) (d : Placed) → i < length ops
        → held_by_process script (take (i + 1) ops)
        ≡ held_by_process script (take i ops)
        ++ held_behind script (process_board script ops i)
        (placed_operation script (get_or ops i d))
    held-next i d below =
        ap (held_by_process script) (take_more ops i d below)
        ∙ held-push (placed_operation script) nothing_open (take i ops) (get_or ops i d)

    pub walked-next : (paths : List Path) (i : ℕ) (d : Placed) → i < length ops
        → HasWalked paths i
        → HasPaths paths (opened script (process_board script ops i)
        (placed_operation script (get_or ops i d)))
        → HasWalked paths (i + 1)
    walked-next paths i d below has new =
        let b : Blackboard Variant = process_board script ops i in
        let o : Option Operation = placed_operation script (get_or ops i d) in
        let next : HasBoard script paths (board_placed script b o) =
        opened-next script b paths o has.board new in
        record {
          board = subst (HasBoard script paths) (sym (process-next i d below)) next;
          held = subst (HasPaths paths) (sym (held-next i d below))
              (All-append (Contains paths) (held_by_process script (take i ops))
              (held_behind script b o) has.held (behind-has paths b o next));
        }

  module _ (journal : Journal) (needs : (k : ℕ) (d : Placed) → k < length journal.ops
      → placed_node script journal (get_or journal.ops k d)
      ≡ opens_on script (process_board script journal.ops k)
      (placed_operation script (get_or journal.ops k d))) where
    -- the path for a place is the one that its operation opens
    pub placed-opened : (k : ℕ) (d : Placed) → k < length journal.ops
        → placed_path script journal journal.ops (k, get_or journal.ops k d)
        ≡ opened script (process_board script journal.ops k)
        (placed_operation script (get_or journal.ops k d))
    placed-opened k d below = ap (λ n. path_if script n (process_board script journal.ops k)
        (placed_operation script (get_or journal.ops k d))) (needs k d below)

    pub walked-more : (paths : List Path) (m i : ℕ) → i + m ≤ length journal.ops
        → HasPaths paths (flat_map (placed_path script journal journal.ops)
        (enumerate_from i (take m (drop i journal.ops))))
        → HasWalked journal.ops paths i → HasWalked journal.ops paths (i + m)
    walked-more paths zero i less new has =
        subst (HasWalked journal.ops paths) (let e : i ≡ i + 0 = omega arith in e) has
    walked-more paths (suc m) i less new has =
        let d : Placed = record { thread = 0; line = 0 } in
        let p : Placed = get_or journal.ops i d in
        let below : i < length journal.ops = omega (arith, less) in
        let rest : List Path = flat_map (placed_path script journal journal.ops)
        (enumerate_from (i + 1) (take m (drop (i + 1) journal.ops))) in
        let all : HasPaths paths (placed_path script journal journal.ops (i, p) ++ rest) =
        subst (λ (ps : List Placed). HasPaths paths
        (flat_map (placed_path script journal journal.ops) (enumerate_from i (take (suc m) ps))))
        (drop_more journal.ops i d below) new in
        subst (HasWalked journal.ops paths) (let e : i + 1 + m ≡ i + suc m = omega arith in e)
        (walked-more paths m (i + 1) (omega (arith, less))
        (all-back (Contains paths) (placed_path script journal journal.ops (i, p)) rest all)
        (walked-next journal.ops paths i d below has
        (subst (HasPaths paths) (placed-opened i d below)
        (all-front (Contains paths) (placed_path script journal journal.ops (i, p)) rest all))))

  -- ---- lines

  abbrev pub own_of : Line × LineNote → Option Operation
  own_of l = own_operation script l.0

  module _ (ops : List Placed) where
    pub state-push : (state : ThreadState) (ls : List (Line × LineNote)) (l : Line × LineNote)
        → state_after_lines script ops state (ls ++ l ∷ [])
        ≡ state_after script ops l.0 l.1 (state_after_lines script ops state ls)
    state-push state [] l = refl
    state-push state (k ∷ ls) l = state-push (state_after script ops k.0 k.1 state) ls l

    -- the reading of a channel's last snapshot behind lines
    abbrev pub previous_from : Channel → ThreadState → (previous : ℕ) → List (Line × LineNote) → ℕ
    previous_from channel state previous [] = previous
    previous_from channel state previous (l ∷ ls) =
        previous_from channel (state_after script ops l.0 l.1 state)
        (previous_after script ops l.0 l.1 state channel previous) ls

    pub previous-push : (channel : Channel) (state : ThreadState) (previous : ℕ)
        (ls : List (Line × LineNote)) (l : Line × LineNote)
        → previous_from channel state previous (ls ++ l ∷ [])
        ≡ previous_after script ops l.0 l.1 (state_after_lines script ops state ls) channel
        (previous_from channel state previous ls)
    previous-push channel state previous [] l = refl
    previous-push channel state previous (k ∷ ls) l =
        previous-push channel (state_after script ops k.0 k.1 state)
        (previous_after script ops k.0 k.1 state channel previous) ls l

    pub taken-push : (channel : Channel) (state : ThreadState) (previous : ℕ)
        (ls : List (Line × LineNote)) (l : Line × LineNote)
        → taken_from script ops channel state previous (ls ++ l ∷ [])
        ≡ taken_from script ops channel state previous ls
        ++ taken_in script ops l.0 l.1 (state_after_lines script ops state ls) channel
        (previous_from channel state previous ls)
    taken-push channel state previous [] l =
        append-nil (taken_in script ops l.0 l.1 state channel previous)
    taken-push channel state previous (k ∷ ls) l =
        ap (λ rs. taken_in script ops k.0 k.1 state channel previous ++ rs)
        (taken-push channel (state_after script ops k.0 k.1 state)
        (previous_after script ops k.0 k.1 state channel previous) ls l)
        ∙ sym (append_assoc (taken_in script ops k.0 k.1 state channel previous) _ _)

    pub board-lines : (state : ThreadState) (ls : List (Line × LineNote))
        → (state_after_lines script ops state ls).board
        ≡ fold (λ c l. board_placed script c (own_of l)) state.board ls
    board-lines state [] = refl
    board-lines state (l ∷ ls) =
        board-lines (state_after script ops l.0 l.1 state) ls
        ∙ ap (λ b. fold (λ c k. board_placed script c (own_of k)) b ls)
        (own-board script ops l.0 l.1 state)

    -- a thread's board behind lines, and what it held so far
    pub record HasLines (paths : List Path) (ls : List (Line × LineNote)) : Type 0 where
      pub board : HasBoard script paths (state_after_lines script ops at_start ls).board
      pub held : HasPaths paths (held_from script nothing_open (map own_of ls))

    pub lines-next : (paths : List Path) (ls : List (Line × LineNote)) (l : Line × LineNote)
        → HasLines paths ls
        → HasPaths paths (opened script (state_after_lines script ops at_start ls).board (own_of l))
        → HasLines paths (ls ++ l ∷ [])
    lines-next paths ls l has new =
        let state : ThreadState = state_after_lines script ops at_start ls in
        let next : HasBoard script paths (board_placed script state.board (own_of l)) =
        opened-next script state.board paths (own_of l) has.board new in
        let held : held_from script nothing_open (map own_of (ls ++ l ∷ []))
        ≡ held_from script nothing_open (map own_of ls)
        ++ held_behind script state.board (own_of l) =
        held-push own_of nothing_open ls l
        ∙ ap (λ b. held_from script nothing_open (map own_of ls)
        ++ held_behind script b (own_of l)) (sym (board-lines at_start ls)) in
        record {
          board = subst (HasBoard script paths)
              (sym (ap (λ (s : ThreadState). s.board) (state-push at_start ls l)
              ∙ own-board script ops l.0 l.1 state)) next;
          held = subst (HasPaths paths) (sym held)
              (All-append (Contains paths) (held_from script nothing_open (map own_of ls))
              (held_behind script state.board (own_of l)) has.held
              (behind-has paths state.board (own_of l) next));
        }
