-- The paths that boards hold, kept by the nodes of a context.
use Rattle.std.proofs.Common.{◌≡◌, ℕ, ◌+◌, ◌<◌, ◌≤◌, Bool, true, false, ◌&&◌, ◌||◌, inl, inr, List, []}
use Rattle.std.proofs.Common.{◌∷◌, ◌++◌, length, get_or, take, drop, map, refl, sym, ap, subst, ◌∙◌}
use Rattle.std.proofs.Common.{append_assoc, append-nil, add-one, drop-cons, true≢false, arith}
use Rattle.std.proofs.Common.{Contains}
use Rattle.std.specs.Prelude.{Option, Some, None, flat_map, if◌then◌else◌, not}
use Rattle.std.specs.List.{All, IsDistinct}
use Rattle.std.specs.Ordering.{eq_by_cmp}
use Rattle.std.specs.Set.{distinct_count, is_member}
use Rattle.std.proofs.lemmas.Grind.{flat_map-append}
use Rattle.std.proofs.lemmas.List.{drop_all, get_or-map, length-map, map-append}
use Rattle.std.proofs.lemmas.List.{take_more}
use Rattle.std.proofs.lemmas.List.Elements.{All-nil}
use Rattle.std.proofs.lemmas.List.Folds.{list_any-append}
use Rattle.std.proofs.lemmas.Map.Keys.{IsDistinct-from_apart}
use Rattle.std.proofs.lemmas.Map.Made.{length-from_keys}
use Rattle.std.proofs.lemmas.Map.Views.{list_any-from_Contains}
use Rattle.cal_board.specs.Blackboard.{Blackboard, if_done, reply_to}
use Rattle.cal_board.specs.Slots.{AreOrdered}
use Rattle.cal_board.specs.Standing.{last_nodes}
use Rattle.cal_board.specs.declared.reply.BoardReply as boards
use Rattle.cal_board.specs.declared.reply.BoardReply.TheVariants as board
use Rattle.cal_context.proofs.CallerLemmas.{All-Adds, one_node, path_at-Grows, within_paths}
use Rattle.cal_context.proofs.ListLemmas.{map-alike}
use Rattle.cal_context.specs.Lists.{Adds, AreApart, IsFront}
use Rattle.cal_context.specs.Snapshots.{IsBelowRoot}
use Rattle.cal_context.specs.Tree.{Grows, IsContext, Tree, path_at}
use Rattle.cal_context.specs.declared.numbers.NodeNumber.{NodeNumber}
use Rattle.cal_run.specs.Adding.{MayHavePlaces}
use Rattle.cal_run.specs.Held.{Holds}
use Rattle.cal_run.specs.History.{board_placed, placed_operation}
use Rattle.cal_run.specs.Holding.{AreHeld, HoldsPaths}
use Rattle.cal_run.specs.Lines.{attr_ref, is_process_line, operation_of}
use Rattle.cal_run.specs.Paths.{held_behind, held_from, own_operation, paths_of}
use Rattle.cal_run.specs.Steps.{ThreadState, as_reply, changed, found_reply, is_accepted}
use Rattle.cal_run.specs.Steps.{process_seen, reply_to_line, state_after}
use Rattle.cal_run.specs.declared.operation.Operation.{Operation}
use Rattle.cal_run.proofs.FillLemmas.{slots-paths}
use Rattle.cal_run.proofs.HeldLemmas.{history-HasPlaces}
use Rattle.cal_run.proofs.LineLemmas.{line-places}
use Rattle.cal_script.specs.declared.journal.LineNote.{LineNote}
use Rattle.cal_script.specs.declared.journal.Placed.{Placed}
use Rattle.cal_script.specs.declared.script.Line as lines
use Rattle.cal_script.specs.declared.script.Line.TheVariants as line
use Rattle.cal_script.specs.declared.script.Script.{Script}
use Rattle.cal_script.specs.Valid.{IsPlaced, IsRunnable}
use Rattle.cal_value.specs.ExactOrder.{exact_decides, exact_equiv}
use Rattle.cal_value.specs.Order.{path_cmp}
use Rattle.cal_value.specs.OrderLaws.{path_exact}
use Rattle.cal_value.specs.declared.attribute.Entry.{Entry}
use Rattle.cal_value.specs.declared.variant.Variant.{Variant}
use Rattle.cal_words.specs.declared.op.OpCode.TheVariants as code

abbrev Path : Type 0
Path = List Entry

abbrev same_path : Path → Path → Bool
same_path = eq_by_cmp path_cmp

-- ---- growth

module _ {was is : Tree} (grows : Grows was is) where
  pub AreHeld-Grows : (nodes : List NodeNumber) (paths : List Path) → AreHeld was nodes paths
      → AreHeld is nodes paths
  AreHeld-Grows nodes paths held = record {
    within = λ k d l. within_paths grows _ (held.within k d l);
    same = λ p. ap (λ ps. is_member same_path ps p) (map-alike (path_at is) (path_at was) nodes
        (λ k d l. path_at-Grows grows (get_or nodes k d) (held.within k d l))) ∙ held.same p;
  }

  -- nothing more is held
  pub holds-none : (nodes : List NodeNumber) → HoldsPaths was is nodes nodes []
  holds-none nodes paths held =
      subst (AreHeld is nodes) (sym (append-nil paths)) (AreHeld-Grows nodes paths held)

  -- what was held before the context grew
  pub holds-grown : (now : Tree) (old new : List NodeNumber) (more : List Path)
      → HoldsPaths is now old new more → HoldsPaths was now old new more
  holds-grown now old new more adds paths held = adds paths (AreHeld-Grows old paths held)

-- what is held in two steps
pub holds-both : (a b c : Tree) (x y z : List NodeNumber) (ps qs : List Path)
    → HoldsPaths a b x y ps → HoldsPaths b c y z qs → HoldsPaths a c x z (ps ++ qs)
holds-both a b c x y z ps qs one other paths held =
    subst (AreHeld c z) (append_assoc paths ps qs) (other (paths ++ ps) (one paths held))

-- what the next item of a list gives
pub holds-next : {A : Type 0} (f : A → List Path) (xs : List A) (i : ℕ) (d : A) (a b c : Tree)
    (x y z : List NodeNumber) → i < length xs
    → HoldsPaths a b x y (flat_map f (take i xs)) → HoldsPaths b c y z (f (get_or xs i d))
    → HoldsPaths a c x z (flat_map f (take (i + 1) xs))
holds-next f xs i d a b c x y z below so_far next =
    let more : flat_map f (take (i + 1) xs) ≡ flat_map f (take i xs) ++ f (get_or xs i d) =
    ap (flat_map f) (take_more xs i d below)
    ∙ flat_map-append f (take i xs) (get_or xs i d ∷ [])
    ∙ ap (λ ys. flat_map f (take i xs) ++ ys) (append-nil (f (get_or xs i d))) in
    subst (HoldsPaths a c x z) (sym more) (holds-both a b c x y z _ _ so_far next)

-- ---- one node

either : (a b : Bool) → (b ≡ true → a ≡ true) → a ≡ (a || (b || false))
either true b so = refl
either false true so = so refl
either false false so = refl

Contains-map : {A B : Type 0} (f : A → B) (xs : List A) (x : A) → Contains xs x
    → Contains (map f xs) (f x)
Contains-map f xs x there =
    (there.0, rw length-map there.1, get_or-map f xs there.0 x (f x) there.1 ∙ ap f there.2)

module _ (t : Tree) (old new : List NodeNumber) (n : NodeNumber) (within : n.0 < length t.paths)
    (adds : Adds old n new) where
  pub holds-node : HoldsPaths t t old new (path_at t n ∷ [])
  holds-node paths held = record {
    within = All-Adds (λ (m : NodeNumber). m.0 < length t.paths) old n new held.within within adds;
    same = λ p. by p adds;
  }
    where
      by : (p : Path) → Adds old n new
          → is_member same_path (map (path_at t) new) p
          ≡ is_member same_path (paths ++ path_at t n ∷ []) p
      by p (inr h) =
          ap (λ ns. is_member same_path (map (path_at t) ns) p) h.1
          ∙ ap (λ ps. is_member same_path ps p) (map-append (path_at t) old (n ∷ []))
          ∙ list_any-append (same_path p) (map (path_at t) old) (path_at t n ∷ [])
          ∙ ap (λ b. b || (same_path p (path_at t n) || false)) (held.same p)
          ∙ sym (list_any-append (same_path p) paths (path_at t n ∷ []))
      by p (inl h) =
          let there : is_member same_path paths (path_at t n) ≡ true =
          sym (held.same (path_at t n))
          ∙ list_any-from_Contains (exact_equiv path_exact) (path_at t n) (map (path_at t) old)
          (Contains-map (path_at t) old n h.0) in
          ap (λ ns. is_member same_path (map (path_at t) ns) p) h.1
          ∙ held.same p
          ∙ either (is_member same_path paths p) (same_path p (path_at t n))
          (λ same. ap (is_member same_path paths) ((exact_decides path_exact p (path_at t n)).0 same)
          ∙ there)
          ∙ sym (list_any-append (same_path p) paths (path_at t n ∷ []))

-- and one node more of a list
pub holds-node_more : (t : Tree) (a b c ns : List NodeNumber) (i : ℕ) (d : NodeNumber)
    → i < length ns → HoldsPaths t t a b (map (path_at t) (take i ns))
    → HoldsPaths t t b c (path_at t (get_or ns i d) ∷ [])
    → HoldsPaths t t a c (map (path_at t) (take (i + 1) ns))
holds-node_more t a b c ns i d below so_far next =
    subst (HoldsPaths t t a c)
    (sym (ap (map (path_at t)) (take_more ns i d below)
    ∙ map-append (path_at t) (take i ns) (get_or ns i d ∷ [])))
    (holds-both t t t a b c _ _ so_far next)

-- ---- how many they are

not-so : (b : Bool) → (b ≡ true → ⊥) → b ≡ false
not-so true never = absurd (never refl)
not-so false never = refl

pub nothing-held : (t : Tree) → AreHeld t [] []
nothing-held t = record {
  within = All-nil (λ (n : NodeNumber). n.0 < length t.paths);
  same = λ p. refl;
}

module _ (t : Tree) (context : IsContext t) (nodes : List NodeNumber) (apart : AreApart nodes) where
  -- nodes that are apart have different paths
  paths-distinct : All (λ (n : NodeNumber). n.0 < length t.paths) nodes
      → IsDistinct same_path (map (path_at t) nodes)
  paths-distinct within = IsDistinct-from_apart same_path (map (path_at t) nodes)
      (λ i j d less below. let n : NodeNumber = record { 0 = 0 } in
      let long = length-map nodes (path_at t) in
      let late : j < length nodes = omega (arith, long, below) in
      let early : i < length nodes = omega (arith, late, less) in
      not-so (same_path (get_or (map (path_at t) nodes) i d) (get_or (map (path_at t) nodes) j d))
      (λ same. let paths : path_at t (get_or nodes i n) ≡ path_at t (get_or nodes j n) =
      sym (get_or-map (path_at t) nodes i n d early)
      ∙ (exact_decides path_exact _ _).0 same
      ∙ get_or-map (path_at t) nodes j n d late in
      let one = apart i j n early late
      (one_node context _ _ (within i n early) (within j n late) paths) in
      omega (arith, one, less)))

  pub held-count : (was : Tree) (paths : List Path) → HoldsPaths was t [] nodes paths
      → length nodes ≡ distinct_count same_path paths
  held-count was paths adds =
      let held = adds [] (nothing-held was) in
      sym (length-map nodes (path_at t))
      ∙ length-from_keys (exact_equiv path_exact) (map (path_at t) nodes) paths
      (paths-distinct held.within) held.same

-- ---- a board

module _ (t : Tree) (script : Script) (front : IsFront script.attributes t.attributes)
    (held : Blackboard NodeNumber) (b : Blackboard Variant) (is : Holds t script held b)
    (ordered : AreOrdered held.references) where
  -- the last nodes of its slots have its paths
  pub board-below : All (IsBelowRoot t) (last_nodes held)
  board-below = (slots-paths t script.attributes front held.references b.references
      is.stands.references ordered.held is.known.references).0

  pub board-paths : map (path_at t) (last_nodes held) ≡ paths_of script b
  board-paths = (slots-paths t script.attributes front held.references b.references
      is.stands.references ordered.held is.known.references).1

-- ---- operations one after another

module _ {A : Type 0} (script : Script) (f : A → Option Operation) (xs : List A) (i : ℕ) where
  -- one more is taken off those that are left
  pub held_from-drop : (x : A) → x ≡ get_or xs i x → i < length xs → (op : Option Operation)
      → op ≡ f x → (b : Blackboard Variant) (some all : List Path)
      → some ++ held_from script b (map f (drop i xs)) ≡ all
      → (some ++ held_behind script b op)
      ++ held_from script (board_placed script b op) (map f (drop (i + 1) xs)) ≡ all
  held_from-drop x is below op same b some all so_far =
      let next : drop i xs ≡ get_or xs i x ∷ drop (i + 1) xs = rw add-one (drop-cons xs i x below) in
      append_assoc some _ _
      ∙ (λ j. some ++ (held_behind script b (same j)
      ++ held_from script (board_placed script b (same j)) (map f (drop (i + 1) xs))))
      ∙ (λ j. some ++ held_from script b (map f (is j ∷ drop (i + 1) xs)))
      ∙ ap (λ ys. some ++ held_from script b (map f ys)) (sym next)
      ∙ so_far

  -- none is left
  pub held_from-end : (b : Blackboard Variant) (some all : List Path) → length xs ≤ i
      → some ++ held_from script b (map f (drop i xs)) ≡ all → some ≡ all
  held_from-end b some all past so_far =
      sym (append-nil some)
      ∙ ap (λ ys. some ++ held_from script b (map f ys)) (sym (drop_all i xs past))
      ∙ so_far

-- ---- places

pub own-places : (script : Script) (l : lines.Line)
    → IsPlaced script.attributes script.channels script.values l
    → MayHavePlaces script (own_operation script l)
own-places script l placed = by (is_process_line script l)
  where
    by : (b : Bool) → MayHavePlaces script (if b then None else operation_of l)
    by true = tt
    by false = line-places script l placed

pub placed-places : (script : Script) → IsRunnable script → (p : Placed)
    → MayHavePlaces script (placed_operation script p)
placed-places script runnable p = by (placed_operation script p) refl
  where
    by : (op : Option Operation) → placed_operation script p ≡ op → MayHavePlaces script op
    by None is = tt
    by (Some op) is = history-HasPlaces script p op runnable is

-- ---- a thread's board, as the definition of a run has it

if-refused : (r : boards.BoardReply) (new old : Blackboard Variant)
    → is_accepted (Some (as_reply r)) ≡ false → if_done r new old ≡ old
if-refused board.Done new old refused = absurd (true≢false refused)
if-refused (board.Mismatch top) new old refused = refl
if-refused board.NotOpen new old refused = refl
if-refused (board.TreeFull full) new old refused = refl
if-refused board.TooDeep new old refused = refl
if-refused board.SlotsFull new old refused = refl

-- a line that a board refuses leaves it
refused-stays : (script : Script) (b : Blackboard Variant) (l : lines.Line)
    → is_accepted (reply_to_line script b l) ≡ false
    → board_placed script b (operation_of l) ≡ b
refused-stays script b (line.Begin a v) refused =
    if-refused (reply_to b code.Begin (attr_ref script a)) _ b refused
refused-stays script b (line.End a) refused =
    if-refused (reply_to b code.End (attr_ref script a)) _ b refused
refused-stays script b (line.Set a v) refused =
    if-refused (reply_to b code.Set (attr_ref script a)) _ b refused
refused-stays script b line.Snapshot refused = refl
refused-stays script b (line.Flush c) refused = refl
refused-stays script b (line.Tick n) refused = refl

pub own-board : (script : Script) (history : List Placed) (l : lines.Line) (note : LineNote)
    (state : ThreadState)
    → (state_after script history l note state).board
    ≡ board_placed script state.board (own_operation script l)
own-board script history l note state =
    by (is_process_line script l) (is_accepted (found_reply script history l note state))
    (λ own. ap (λ p. is_accepted (reply_to_line script
    (if p then process_seen script history l note else state.board) l)) own)
  where
    by : (p accepted : Bool)
        → (p ≡ false → accepted ≡ is_accepted (reply_to_line script state.board l))
        → (if accepted && not p then changed script history l note state else state).board
        ≡ board_placed script state.board (if p then None else operation_of l)
    by true true is = refl
    by true false is = refl
    by false true is = refl
    by false false is = sym (refused-stays script state.board l (sym (is refl)))
