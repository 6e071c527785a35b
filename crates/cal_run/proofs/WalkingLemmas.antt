-- The threads are walked line by line and thread by thread, and counts of channels are sums over
-- lines.
use Rattle.std.proofs.Common.{◌≡◌, ℕ, ◌+◌, ◌<◌, ◌≤◌, Bool, true, false, ◌&&◌, cond, List, [], ◌∷◌}
use Rattle.std.proofs.Common.{◌++◌, ◌*◌, if◌then◌else◌, length, get_or, map, take, drop, refl, sym}
use Rattle.std.proofs.Common.{ap, subst, ◌∙◌, ◌||◌, append_assoc, append-nil, arith, suc, zero}
use Rattle.std.specs.Prelude.{Result, Ok, Err, OnOk}
use Rattle.std.specs.Prelude.{Option, Some, None, count_by, flat_map, sum_by, unwrap_or, zip}
use Rattle.std.specs.List.{fold}
use Rattle.std.proofs.lemmas.List.{map-append, take_more}
use Rattle.std.proofs.lemmas.List.Folds.{list_any-append}
use Rattle.std.proofs.lemmas.List.Sums.{count_by-le-length, sum_by-cons}
use Rattle.std.specs.Ordering.{eq_by_cmp}
use Rattle.std.specs.Set.{is_member}
use Rattle.cal_board.specs.Blackboard.{Blackboard, nothing_open}
use Rattle.cal_context.specs.Tree.{Grows, Tree, path_at}
use Rattle.cal_context.specs.declared.numbers.NodeNumber.{NodeNumber}
use Rattle.cal_run.proofs.CountLemmas.{snapshots-counted}
use Rattle.cal_run.proofs.HeldLemmas.{Holds-Grows}
use Rattle.cal_run.proofs.LineLemmas.{nothing-holds, reply_to_line-Holds}
use Rattle.cal_run.proofs.PathLemmas.{nothing-held}
use Rattle.cal_run.proofs.PlainLawLemmas.{plain-lawful}
use Rattle.cal_run.proofs.PlainLemmas.{drop-first, drop-past, found, found-is}
use Rattle.cal_run.specs.Counting.{count_noted, is_noted_taken}
use Rattle.cal_run.specs.Held.{Holds, IsProcess}
use Rattle.cal_run.specs.History.{board_placed, placed_operation, process_board}
use Rattle.cal_run.specs.Holding.{AreHeld, HoldsPaths}
use Rattle.cal_run.specs.Lawful.{process_lines, takes_start_reading}
use Rattle.cal_run.specs.Lines.{is_process_line, takes}
use Rattle.cal_run.specs.Noting.{before_after}
use Rattle.cal_run.specs.Paths.{held_behind, held_by_process, held_from}
use Rattle.cal_run.specs.Plain.{note_of, notes_from, plain, plain_history, threads_from}
use Rattle.cal_run.specs.Runs.{snapshots}
use Rattle.cal_run.specs.Steps.{ThreadState, at_start, is_accepted, reply_to_line, state_after}
use Rattle.cal_run.specs.Walking.{every, has_trace, held_to, noted_by, takers, taken_by, taken_on}
use Rattle.cal_run.specs.declared.operation.Operation.{Operation}
use Rattle.cal_run.specs.declared.process.Process.{Process}
use Rattle.cal_script.specs.declared.journal.LineNote.{LineNote}
use Rattle.cal_script.specs.declared.journal.Placed.{Placed}
use Rattle.cal_script.specs.declared.journal.Reply as replies
use Rattle.cal_script.specs.declared.journal.Reply.TheVariants as reply
use Rattle.cal_script.specs.declared.journal.ThreadNote.{ThreadNote}
use Rattle.cal_script.specs.declared.script.Channel.{Channel}
use Rattle.cal_script.specs.declared.script.Line.{Line}
use Rattle.cal_script.specs.declared.script.Script.{Script}
use Rattle.cal_value.specs.Order.{path_cmp}
use Rattle.cal_value.specs.declared.attribute.Entry.{Entry}
use Rattle.cal_value.specs.declared.record.Rec.{Rec}
use Rattle.cal_value.specs.declared.variant.Variant.{Variant}

abbrev Path : Type 0
Path = List Entry

-- two things that hold of an Ok
pub on_ok-both : {T E P Q R : Type 0} (r : Result T E) → OnOk r P → OnOk r Q → (P → Q → R)
    → OnOk r R
on_ok-both (Ok x) p q both = both p q
on_ok-both (Err e) p q both = tt

-- ---- a context that grows

pub IsProcess-Grows : {was is : Tree} → Grows was is → (script : Script) (history : List Placed)
    (process : Process) → IsProcess was script history process
    → IsProcess is script history process
IsProcess-Grows grows script history process sees = record {
  holds = Holds-Grows grows script process.board _ sees.holds;
  within = sees.within;
}

-- the process before its first operation
pub start-walk : (t : Tree) (script : Script) (history : List Placed) (process : Process)
    → process.board ≡ nothing_open → process.count ≡ 0 → IsProcess t script history process
start-walk t script history process board count = record {
  holds = subst (λ (n : ℕ). Holds t script process.board (process_board script history n))
      (sym count)
      (subst (λ (b : Blackboard NodeNumber). Holds t script b nothing_open) (sym board)
      (nothing-holds t script));
  within = omega (arith, count);
}

-- and what it held
pub start-held : (t : Tree) (script : Script) (history : List Placed) (nodes : List NodeNumber)
    (count : ℕ) → nodes ≡ [] → count ≡ 0 → AreHeld t nodes (held_to script history count)
start-held t script history nodes count none first =
    subst (λ (n : ℕ). AreHeld t nodes (held_to script history n)) (sym first)
    (subst (λ (ns : List NodeNumber). AreHeld t ns []) (sym none) (nothing-held t))

-- ---- the reply to a line

-- it is that of the plain journal
pub walked-found : (t : Tree) (script : Script) (l : Line) (shared : Bool)
    (board : Blackboard NodeNumber) (process : Process) (state : ThreadState)
    → shared ≡ is_process_line script l → Holds t script board state.board
    → IsProcess t script (plain_history script) process
    → reply_to_line script (if shared then process.board else board) l
    ≡ found script process.count state l
walked-found t script l shared board process state kind mine sees =
    reply_to_line-Holds t script (if shared then process.board else board)
    (if shared then process_board script (plain_history script) process.count else state.board)
    (by shared) l
    ∙ ap (λ (p : Bool). reply_to_line script
    (if p then process_board script (plain_history script) process.count else state.board) l) kind
    ∙ found-is script process.count state l
  where
    by : (p : Bool) → Holds t script (if p then process.board else board)
        (if p then process_board script (plain_history script) process.count else state.board)
    by true = sees.holds
    by false = mine

-- a line is accepted as its note says
noted-accepted : (r : Option replies.Reply)
    → is_accepted r ≡ is_accepted (Some (unwrap_or r reply.Merged))
noted-accepted None = refl
noted-accepted (Some r) = refl

-- the channels that take a snapshot, by whether the line is accepted
pub takers-is : (script : Script) (such : Channel → Bool) (before seen : ℕ) (state : ThreadState)
    (l : Line) (accepted : Bool) → accepted ≡ is_accepted (found script before state l)
    → count_by (λ (c : Channel). such c && (accepted && takes script c l)) script.channels
    ≡ takers script such (l, note_of script before seen state l)
takers-is script such before seen state l accepted is =
    ap (λ (a : Bool). count_by (λ (c : Channel). such c && (a && takes script c l))
    script.channels) (is ∙ noted-accepted (found script before state l))

-- ---- what the process's board holds

module _ (script : Script) where
  held_from-append : (b : Blackboard Variant) (xs : List Placed) (p : Placed)
      → held_from script b (map (placed_operation script) (xs ++ p ∷ []))
      ≡ held_from script b (map (placed_operation script) xs)
      ++ held_behind script
      (fold (λ (b : Blackboard Variant) (p : Placed). board_placed script b
      (placed_operation script p)) b xs) (placed_operation script p)
  held_from-append b [] p = append-nil (held_behind script b (placed_operation script p))
  held_from-append b (x ∷ xs) p =
      let op = placed_operation script x in
      ap (λ (more : List Path). held_behind script b op ++ more)
      (held_from-append (board_placed script b op) xs p)
      ∙ sym (append_assoc (held_behind script b op) _ _)

  -- behind one operation more
  pub held_to-more : (history : List Placed) (count : ℕ) (p : Placed) → p ≡ get_or history count p
      → count < length history
      → held_to script history (count + 1)
      ≡ held_to script history count
      ++ held_behind script (process_board script history count) (placed_operation script p)
  held_to-more history count p at below =
      ap (λ (h : List Placed). held_by_process script h)
      (take_more history count p below
      ∙ ap (λ (q : Placed). take count history ++ q ∷ []) (sym at))
      ∙ held_from-append nothing_open (take count history) p

-- paths of the same nodes are the same
pub held-instead : (is : Tree) (old new : List NodeNumber) (nodes : List NodeNumber)
    (paths : List Path) → AreHeld is nodes paths
    → HoldsPaths is is old new (map (path_at is) nodes) → HoldsPaths is is old new paths
held-instead is old new nodes paths held adds before was =
    let both = adds before was in
    let same : Path → Path → Bool = eq_by_cmp path_cmp in
    record {
      within = both.within;
      same = λ p. both.same p
          ∙ list_any-append (same p) before (map (path_at is) nodes)
          ∙ ap (λ b. is_member same before p || b) (held.same p)
          ∙ sym (list_any-append (same p) before paths);
    }

-- ---- what channels take

module _ (script : Script) (such : Channel → Bool) where
  -- one line counted, of those that are left
  pub taken-drop : (before seen : ℕ) (state : ThreadState) (ls : List Line) (i : ℕ) (l : Line)
      (taken more all : ℕ) → i < length ls → l ≡ get_or ls i l
      → more ≡ taken + takers script such (l, note_of script before seen state l)
      → taken + sum_by (takers script such)
      (zip (drop i ls) (notes_from script before seen state (drop i ls))) ≡ all
      → more + sum_by (takers script such) (zip (drop (i + 1) ls)
      (notes_from script (before_after script before l) (note_of script before seen state l).seen
      (state_after script (plain_history script) l (note_of script before seen state l) state)
      (drop (i + 1) ls))) ≡ all
  taken-drop before seen state ls i l taken more all below is counted so_far =
      let note = note_of script before seen state l in
      let first = ap (λ (ls : List Line). sum_by (takers script such)
      (zip ls (notes_from script before seen state ls))) (drop-first ls i l below is) in
      let next = sum_by-cons (takers script such) (l, note) (zip (drop (i + 1) ls)
      (notes_from script (before_after script before l) note.seen
      (state_after script (plain_history script) l note state) (drop (i + 1) ls))) in
      omega (arith, first, next, counted, so_far)

  pub taken-end : (before seen : ℕ) (state : ThreadState) (ls : List Line) (i taken all : ℕ)
      → length ls ≤ i
      → taken + sum_by (takers script such)
      (zip (drop i ls) (notes_from script before seen state (drop i ls))) ≡ all
      → taken ≡ all
  taken-end before seen state ls i taken all past so_far =
      let none = ap (λ (ls : List Line). sum_by (takers script such)
      (zip ls (notes_from script before seen state ls))) (drop-past ls i past) in
      omega (arith, none, so_far)

  -- one thread counted, of those that are left
  pub taken-drop_threads : (before next : ℕ) (ts : List (List Line)) (i : ℕ) (t : List Line)
      (taken more all : ℕ) → i < length ts → t ≡ get_or ts i t
      → next ≡ before + length (process_lines script t)
      → more ≡ taken + noted_by script such t before
      → taken + taken_by script such (zip (drop i ts) (threads_from script before (drop i ts)))
      ≡ all
      → more + taken_by script such
      (zip (drop (i + 1) ts) (threads_from script next (drop (i + 1) ts))) ≡ all
  taken-drop_threads before next ts i t taken more all below is behind counted so_far =
      let first = ap (λ (ts : List (List Line)). taken_by script such
      (zip ts (threads_from script before ts))) (drop-first ts i t below is) in
      let note : ThreadNote = record {
        start = if takes_start_reading script then Some 0 else None;
        lines = notes_from script before 0 at_start t;
      } in
      let rest = sum_by-cons (taken_on script such) (t, note) (zip (drop (i + 1) ts)
      (threads_from script (before + length (process_lines script t)) (drop (i + 1) ts))) in
      let same = ap (λ (n : ℕ). taken_by script such
      (zip (drop (i + 1) ts) (threads_from script n (drop (i + 1) ts)))) behind in
      omega (arith, first, rest, counted, same, so_far)

  pub taken-end_threads : (before : ℕ) (ts : List (List Line)) (i taken all : ℕ)
      → length ts ≤ i
      → taken + taken_by script such (zip (drop i ts) (threads_from script before (drop i ts)))
      ≡ all
      → taken ≡ all
  taken-end_threads before ts i taken all past so_far =
      let none = ap (λ (ts : List (List Line)). taken_by script such
      (zip ts (threads_from script before ts))) (drop-past ts i past) in
      omega (arith, none, so_far)

-- ---- how many they are at most

module _ (script : Script) (channels : length script.channels ≤ 16) (such : Channel → Bool) where
  pub takers-few : (l : Line × LineNote) → takers script such l ≤ 16
  takers-few l =
      let few = count_by-le-length
      (λ (channel : Channel). such channel && is_noted_taken script channel l) script.channels in
      omega (arith, few, channels)

  taken_on-few : (ls : List Line) (ns : List LineNote)
      → sum_by (takers script such) (zip ls ns) ≤ 16 * length ls
  taken_on-few [] ns = omega arith
  taken_on-few (l ∷ ls) [] = omega arith
  taken_on-few (l ∷ ls) (n ∷ ns) =
      let more = sum_by-cons (takers script such) (l, n) (zip ls ns) in
      omega (arith, more, takers-few (l, n), taken_on-few ls ns)

  pub taken_by-few : (ts : List (List Line)) (ns : List ThreadNote)
      → taken_by script such (zip ts ns) ≤ 16 * sum_by length ts
  taken_by-few [] ns = omega arith
  taken_by-few (t ∷ ts) [] = omega arith
  taken_by-few (t ∷ ts) (n ∷ ns) =
      let more = sum_by-cons (taken_on script such) (t, n) (zip ts ns) in
      let long = sum_by-cons {X = List Line} length t ts in
      omega (arith, more, long, taken_on-few t n.lines, taken_by-few ts ns)

-- no thread is longer than all together
pub thread-few : (ts : List (List Line)) (i : ℕ) (t : List Line) → i < length ts
    → t ≡ get_or ts i t → length t ≤ sum_by length ts
thread-few [] i t below is = absurd (omega (arith, below))
thread-few (s ∷ ts) zero t below is =
    let long = sum_by-cons {X = List Line} length s ts in
    let same = ap (λ (t : List Line). length t) is in
    omega (arith, long, same)
thread-few (s ∷ ts) (suc i) t below is =
    let long = sum_by-cons {X = List Line} length s ts in
    let rest = thread-few ts i t (omega (arith, below)) is in
    omega (arith, long, rest)

-- ---- sums over channels, in place of sums over lines

-- sums of the same, of none, and of two
sum-alike : {X : Type 0} (f g : X → ℕ) (xs : List X) → ((x : X) → f x ≡ g x)
    → sum_by f xs ≡ sum_by g xs
sum-alike f g [] alike = refl
sum-alike f g (x ∷ xs) alike =
    let here = alike x in
    let rest = sum-alike f g xs alike in
    let left = sum_by-cons f x xs in
    let right = sum_by-cons g x xs in
    omega (arith, here, rest, left, right)

sum-none : {X : Type 0} (f : X → ℕ) (xs : List X) → ((x : X) → f x ≡ 0) → sum_by f xs ≡ 0
sum-none f [] none = refl
sum-none f (x ∷ xs) none =
    let here = none x in
    let rest = sum-none f xs none in
    let left = sum_by-cons f x xs in
    omega (arith, here, rest, left)

sum-two : {X : Type 0} (f g h : X → ℕ) (xs : List X) → ((x : X) → f x ≡ g x + h x)
    → sum_by f xs ≡ sum_by g xs + sum_by h xs
sum-two f g h [] both = refl
sum-two f g h (x ∷ xs) both =
    let here = both x in
    let rest = sum-two f g h xs both in
    let one = sum_by-cons f x xs in
    let two = sum_by-cons g x xs in
    let three = sum_by-cons h x xs in
    omega (arith, here, rest, one, two, three)

module _ (script : Script) (such : Channel → Bool) where
  abbrev takes_so : Channel → Line × LineNote → ℕ
  takes_so c l = cond (such c && is_noted_taken script c l) 1 0

  abbrev some : List Channel → Line × LineNote → ℕ
  some cs l = sum_by (λ (c : Channel). takes_so c l) cs

  abbrev all_some : List Channel → List (List Line × ThreadNote) → ℕ
  all_some cs ts =
      sum_by (λ (t : List Line × ThreadNote). sum_by (some cs) (zip t.0 t.1.lines)) ts

  abbrev by_channel : List (List Line × ThreadNote) → Channel → ℕ
  by_channel ts c =
      sum_by (λ (t : List Line × ThreadNote). sum_by (takes_so c) (zip t.0 t.1.lines)) ts

  turned : (cs : List Channel) (ts : List (List Line × ThreadNote))
      → all_some cs ts ≡ sum_by (by_channel ts) cs
  turned [] ts = sum-none (λ (t : List Line × ThreadNote). sum_by (some []) (zip t.0 t.1.lines)) ts
      (λ t. sum-none (some []) (zip t.0 t.1.lines) (λ l. refl))
  turned (c ∷ cs) ts =
      let lines : (t : List Line × ThreadNote) → sum_by (some (c ∷ cs)) (zip t.0 t.1.lines)
      ≡ sum_by (takes_so c) (zip t.0 t.1.lines) + sum_by (some cs) (zip t.0 t.1.lines) =
      λ t. sum-two (some (c ∷ cs)) (takes_so c) (some cs) (zip t.0 t.1.lines)
      (λ l. sum_by-cons (λ (c : Channel). takes_so c l) c cs) in
      let both = sum-two
      (λ (t : List Line × ThreadNote). sum_by (some (c ∷ cs)) (zip t.0 t.1.lines))
      (λ (t : List Line × ThreadNote). sum_by (takes_so c) (zip t.0 t.1.lines))
      (λ (t : List Line × ThreadNote). sum_by (some cs) (zip t.0 t.1.lines)) ts lines in
      let rest = turned cs ts in
      let right = sum_by-cons (by_channel ts) c cs in
      omega (arith, both, rest, right)

  -- what such a channel takes is what it takes by the replies
  module _ (ts : List (List Line × ThreadNote)) where
    channel-is : (c : Channel) (rs : List Rec) → length rs ≡ sum_by (count_noted script c) ts
        → by_channel ts c ≡ length (if such c then rs else [])
    channel-is c rs is = by (such c)
      where
        by : (b : Bool) → sum_by (λ (t : List Line × ThreadNote).
            sum_by (λ (l : Line × LineNote). cond (b && is_noted_taken script c l) 1 0)
            (zip t.0 t.1.lines)) ts
            ≡ length (if b then rs else [])
        by true = sym is
        by false = sum-none (λ (t : List Line × ThreadNote).
            sum_by (λ (l : Line × LineNote). 0) (zip t.0 t.1.lines)) ts
            (λ t. sum-none (λ (l : Line × LineNote). 0) (zip t.0 t.1.lines) (λ l. refl))

  pub taken-is : taken_by script such (zip script.threads (plain script).threads)
      ≡ sum_by (λ (c : Channel). length
      (if such c then snapshots script (plain script) c else [])) script.channels
  taken-is =
      let ts : List (List Line × ThreadNote) = zip script.threads (plain script).threads in
      turned script.channels ts
      ∙ sum-alike (by_channel ts)
      (λ (c : Channel). length (if such c then snapshots script (plain script) c else []))
      script.channels
      (λ c. channel-is ts c (snapshots script (plain script) c)
      (snapshots-counted script (plain script) c (plain-lawful script)))
