-- The plain journal is made line by line and thread by thread.
use Rattle.std.proofs.Common.{◌≡◌, ℕ, suc, zero, ◌+◌, ◌-◌, ◌<◌, ◌≤◌, List, [], ◌∷◌, ◌++◌, Bool}
use Rattle.std.proofs.Common.{true, false, if◌then◌else◌, ◌&&◌, length, get_or, map, drop, ap}
use Rattle.std.proofs.Common.{subst, sym, refl, ◌∙◌, append_assoc, append-nil, add-one, arith}
use Rattle.std.specs.Prelude.{Option, Some, None, Result, Ok, Err, OnOk, not, filter_map, flat_map}
use Rattle.std.specs.Prelude.{unwrap_or}
use Rattle.std.specs.List.{cons_option, enumerate_from, list_any, sum_by}
use Rattle.std.proofs.Math.Seq.{drop-cons}
use Rattle.std.proofs.lemmas.List.{length-append, length-map}
use Rattle.std.proofs.lemmas.List.Sums.{sum_by-cons, sum_by-drop_more}
use Rattle.cal_board.specs.Blackboard.{Blackboard, nothing_open}
use Rattle.cal_run.proofs.HeldLemmas.{board-more}
use Rattle.cal_run.proofs.LineLemmas.{reply_to_line-Stands}
use Rattle.cal_run.specs.History.{board_placed, placed_operation, process_board}
use Rattle.cal_run.specs.Lawful.{process_lines, takes_start_reading}
use Rattle.cal_run.specs.Lines.{clock_after, is_process_line, operation_of, takes}
use Rattle.cal_run.specs.Noting.{HoldsPlaced, IsPlain, Outlines, OutlinesThen, before_after, noted}
use Rattle.cal_run.specs.Plain.{met, note_of, notes_from, placed_lines, plain_history, threads_from}
use Rattle.cal_run.specs.Steps.{ThreadState, at_start, changed, found_reply, is_accepted, looks}
use Rattle.cal_run.specs.Steps.{reply_to_line, state_after}
use Rattle.cal_run.specs.declared.noting.Plain.{Plain}
use Rattle.cal_run.specs.declared.outline.Nothing.{Nothing}
use Rattle.cal_run.specs.declared.placed.PlacedProcess.{PlacedProcess}
use Rattle.cal_script.specs.declared.journal.LineNote.{LineNote}
use Rattle.cal_script.specs.declared.journal.Placed.{Placed}
use Rattle.cal_script.specs.declared.journal.Reply as replies
use Rattle.cal_script.specs.declared.journal.Reply.TheVariants as reply
use Rattle.cal_script.specs.declared.journal.ThreadNote.{ThreadNote}
use Rattle.cal_script.specs.declared.script.Line.{Line}
use Rattle.cal_script.specs.declared.script.Script.{Script}
use Rattle.cal_value.specs.declared.variant.Variant.{Variant}

-- what is left from a place on, with its first item
pub drop-first : {A : Type 0} (xs : List A) (i : ℕ) (x : A) → i < length xs → x ≡ get_or xs i x
    → drop i xs ≡ x ∷ drop (i + 1) xs
drop-first xs i x below is = drop-cons xs i x below ∙ (λ j. sym is j ∷ drop (sym (add-one i) j) xs)

-- and behind the end nothing
pub drop-past : {A : Type 0} (xs : List A) (i : ℕ) → length xs ≤ i → drop i xs ≡ []
drop-past [] zero past = refl
drop-past [] (suc i) past = refl
drop-past (x ∷ xs) zero past = absurd (omega (arith, past))
drop-past (x ∷ xs) (suc i) past = drop-past xs i (omega (arith, past))

-- ---- the history

abbrev pub place : ℕ → ℕ → Placed
place thread n = record { thread = thread; line = n }

module _ (script : Script) where
  -- the numbers of the process lines among lines that are numbered from k on
  abbrev pub numbers_from : ℕ → List Line → List ℕ
  numbers_from k ls = filter_map
      (λ (l : ℕ × Line). if is_process_line script l.1 then Some l.0 else None)
      (enumerate_from k ls)

  pub numbers-cons : (k : ℕ) (l : Line) (ls : List Line) (p : Bool) → is_process_line script l ≡ p
      → numbers_from k (l ∷ ls)
      ≡ (if p then k ∷ numbers_from (k + 1) ls else numbers_from (k + 1) ls)
  numbers-cons k l ls p is =
      ap (λ (p : Bool). cons_option (if p then Some k else None) (numbers_from (k + 1) ls)) is
      ∙ by p
    where
      by : (p : Bool) → cons_option (if p then Some k else None) (numbers_from (k + 1) ls)
          ≡ (if p then k ∷ numbers_from (k + 1) ls else numbers_from (k + 1) ls)
      by true = refl
      by false = refl

  -- as many, whatever the first number is
  pub length-numbers : (j k : ℕ) (ls : List Line)
      → length (numbers_from j ls) ≡ length (numbers_from k ls)
  length-numbers j k [] = refl
  length-numbers j k (l ∷ ls) = by (is_process_line script l) (length-numbers (j + 1) (k + 1) ls)
    where
      by : (p : Bool) → length (numbers_from (j + 1) ls) ≡ length (numbers_from (k + 1) ls)
          → length (cons_option (if p then Some j else None) (numbers_from (j + 1) ls))
          ≡ length (cons_option (if p then Some k else None) (numbers_from (k + 1) ls))
      by true rest = omega (arith, rest)
      by false rest = rest

  -- a line counts itself, and the lines behind it
  pub count-cons : (before : ℕ) (l : Line) (ls : List Line)
      → before_after script before l + length (process_lines script ls)
      ≡ before + length (process_lines script (l ∷ ls))
  count-cons before l ls = by (is_process_line script l) (length-numbers 1 2 ls)
    where
      by : (p : Bool) → length (numbers_from 1 ls) ≡ length (numbers_from 2 ls)
          → (if p then before + 1 else before) + length (numbers_from 1 ls)
          ≡ before + length (cons_option (if p then Some 1 else None) (numbers_from 2 ls))
      by true same = omega (arith, same)
      by false same = omega (arith, same)

  pub count-drop : (before : ℕ) (ls : List Line) (i : ℕ) (l : Line) → i < length ls
      → l ≡ get_or ls i l
      → before_after script before l + length (process_lines script (drop (i + 1) ls))
      ≡ before + length (process_lines script (drop i ls))
  count-drop before ls i l below is =
      count-cons before l (drop (i + 1) ls)
      ∙ ap (λ ls. before + length (process_lines script ls)) (sym (drop-first ls i l below is))

  pub count-end : (before begun : ℕ) (ls : List Line) (i : ℕ) → length ls ≤ i
      → before + length (process_lines script (drop i ls))
      ≡ begun + length (process_lines script ls)
      → before ≡ begun + length (process_lines script ls)
  count-end before begun ls i past left =
      let none : length (process_lines script (drop i ls)) ≡ 0 =
      ap (λ ls. length (process_lines script ls)) (drop-past ls i past) in
      omega (arith, none, left)

  -- there is room for a process line among those that are left
  pub room-left : (before begun all : ℕ) (ls : List Line) (i : ℕ) (l : Line) → i < length ls
      → l ≡ get_or ls i l
      → before + length (process_lines script (drop i ls))
      ≡ begun + length (process_lines script ls)
      → begun + length (process_lines script ls) ≤ all → is_process_line script l ≡ true
      → before < all
  room-left before begun all ls i l below is left room process =
      let counted = count-drop before ls i l below is in
      let one : before_after script before l ≡ before + 1 =
      ap (λ (p : Bool). if p then before + 1 else before) process in
      omega (arith, counted, one, left, room)

  -- one line placed, of those that are left
  pub placed-drop : (thread : ℕ) (ls : List Line) (i : ℕ) (l : Line) (p : Bool)
      (history : List Placed) → i < length ls
      → l ≡ get_or ls i l → is_process_line script l ≡ p
      → (if p then history ++ place thread (i + 1) ∷ [] else history)
      ++ map (place thread) (numbers_from (i + 1 + 1) (drop (i + 1) ls))
      ≡ history ++ map (place thread) (numbers_from (i + 1) (drop i ls))
  placed-drop thread ls i l p history below is process =
      by p
      ∙ ap (λ ns. history ++ map (place thread) ns)
      (sym (ap (numbers_from (i + 1)) (drop-first ls i l below is)
      ∙ numbers-cons (i + 1) l (drop (i + 1) ls) p process))
    where
      by : (p : Bool) → (if p then history ++ place thread (i + 1) ∷ [] else history)
          ++ map (place thread) (numbers_from (i + 1 + 1) (drop (i + 1) ls))
          ≡ history ++ map (place thread)
          (if p then (i + 1) ∷ numbers_from (i + 1 + 1) (drop (i + 1) ls) else numbers_from
          (i + 1 + 1) (drop (i + 1) ls))
      by true = append_assoc history _ _
      by false = refl

  pub placed-end : (thread : ℕ) (ls : List Line) (i : ℕ) (history all : List Placed) → length ls ≤ i
      → history ++ map (place thread) (numbers_from (i + 1) (drop i ls)) ≡ all → history ≡ all
  placed-end thread ls i history all past so_far =
      sym (append-nil history)
      ∙ ap (λ (ls : List Line). history ++ map (place thread) (numbers_from (i + 1) ls))
      (sym (drop-past ls i past))
      ∙ so_far

  -- one thread placed, of those that are left
  pub history-drop : (ts : List (List Line)) (i : ℕ) (t : List Line) (history : List Placed)
      → i < length ts → t ≡ get_or ts i t
      → (history ++ placed_lines script (i, t)) ++ flat_map (placed_lines script)
      (enumerate_from (i + 1) (drop (i + 1) ts))
      ≡ history ++ flat_map (placed_lines script) (enumerate_from i (drop i ts))
  history-drop ts i t history below is =
      append_assoc history _ _
      ∙ ap (λ ts. history ++ flat_map (placed_lines script) (enumerate_from i ts))
      (sym (drop-first ts i t below is))

  pub history-end : (ts : List (List Line)) (i : ℕ) (history all : List Placed) → length ts ≤ i
      → history ++ flat_map (placed_lines script) (enumerate_from i (drop i ts)) ≡ all
      → history ≡ all
  history-end ts i history all past so_far =
      sym (append-nil history)
      ∙ ap (λ (ts : List (List Line)). history ++ flat_map (placed_lines script)
      (enumerate_from i ts)) (sym (drop-past ts i past))
      ∙ so_far

  -- how many process lines threads have
  abbrev pub total : List (List Line) → ℕ
  total ts = sum_by (λ t. length (process_lines script t)) ts

  pub history-long : (k : ℕ) (ts : List (List Line))
      → length (flat_map (placed_lines script) (enumerate_from k ts)) ≡ total ts
  history-long k [] = refl
  history-long k (t ∷ ts) =
      let rest = history-long (k + 1) ts in
      let more = length-append (placed_lines script (k, t))
      (flat_map (placed_lines script) (enumerate_from (k + 1) ts)) in
      let one = length-map (process_lines script t) (place k) in
      let add = sum_by-cons (λ t. length (process_lines script t)) t ts in
      omega (arith, rest, more, one, add)

  pub total-drop : (ts : List (List Line)) (i : ℕ) (t : List Line) → i < length ts
      → t ≡ get_or ts i t
      → total (drop i ts) ≡ length (process_lines script t) + total (drop (i + 1) ts)
  total-drop ts i t below is =
      sum_by-drop_more (λ t. length (process_lines script t)) ts i t below
      ∙ ap (λ (t : List Line). length (process_lines script t) + total (drop (i + 1) ts)) (sym is)

  -- there is room for the process lines of a thread
  pub total-room : (before all : ℕ) (ts : List (List Line)) (i : ℕ) (t : List Line) → i < length ts
      → t ≡ get_or ts i t
      → before + total (drop i ts) ≡ all → before + length (process_lines script t) ≤ all
  total-room before all ts i t below is left = let more = total-drop ts i t below is in
      omega (arith, more, left)

  -- and so there is for those of the threads behind it
  pub total-next : (before next all : ℕ) (ts : List (List Line)) (i : ℕ) (t : List Line)
      → i < length ts → t ≡ get_or ts i t
      → before + total (drop i ts) ≡ all → next ≡ before + length (process_lines script t)
      → next + total (drop (i + 1) ts) ≡ all
  total-next before next all ts i t below is left counted = let more = total-drop ts i t below is in
      omega (arith, more, left, counted)

-- ---- the note of a line

module _ (script : Script) (before : ℕ) (state : ThreadState) (l : Line) where
  -- the reply behind what a line met
  abbrev pub found : Option replies.Reply
  found = found_reply script (plain_history script) l (met script before state l) state

  -- is that of the board that it acts on, with all operations before it
  pub found-is : reply_to_line script
      (if is_process_line script l then process_board script (plain_history script) before else
      state.board) l
      ≡ found
  found-is = ap (λ (b : Blackboard Variant). reply_to_line script b l)
      (by (is_process_line script l))
    where
      back : before ≡ before + 1 - 1
      back = omega arith

      by : (p : Bool)
          → (if p then process_board script (plain_history script) before else state.board)
          ≡ (if p then process_board script (plain_history script)
          (if p then (if p then before + 1 else before) - 1 else (if p then before + 1 else before))
          else state.board)
      by true = ap (process_board script (plain_history script)) back
      by false = refl

module _ (script : Script) (before seen : ℕ) (state : ThreadState) (l : Line) where
  abbrev h : List Placed
  h = plain_history script

  abbrev told : Option replies.Reply
  told = found script before state l

  -- the reply behind its note is the same
  pub found-noted : found_reply script h l (note_of script before seen state l) state ≡ told
  found-noted = ap (λ (b : Blackboard Variant). reply_to_line script b l)
      (by (is_process_line script l)
      (if looks script h l (met script before state l) state then before else seen))
    where
      by : (p : Bool) (m : ℕ)
          → (if p then process_board script h
          (if p then (if p then before + 1 else m) - 1 else (if p then before + 1 else m)) else
          state.board)
          ≡ (if p then process_board script h
          (if p then (if p then before + 1 else before) - 1 else (if p then before + 1 else before))
          else state.board)
      by true m = refl
      by false m = refl

  abbrev with_seen : ℕ → LineNote
  with_seen s = record {
    reply = unwrap_or told reply.Merged;
    seen = s;
    reading = if list_any (λ channel. channel.timer && (is_accepted told && takes script channel l))
        script.channels
        then Some state.clock else None;
  }

  -- the note is made of that reply
  pub noted-is : noted script before seen state.clock l told ≡ note_of script before seen state l
  noted-is =
      ap with_seen (by (is_process_line script l)
      (list_any (λ channel. is_accepted told && takes script channel l) script.channels))
    where
      by : (p t : Bool) → (if p then before + 1 else (if t then before else seen))
          ≡ (if p then before + 1 else (if t && not p then before else seen))
      by true t = refl
      by false true = refl
      by false false = refl

-- ---- what is kept

-- what holds whatever came
pub on_ok-always : {T E Q : Type 0} (r : Result T E) → Q → OnOk r Q
on_ok-always (Ok x) q = q
on_ok-always (Err e) q = tt

shared-false : (a p : Bool) → p ≡ true → (a && not p) ≡ false
shared-false true true e = refl
shared-false false p e = refl
shared-false true false e = absurd cc

-- a line of the process leaves the thread's own board
pub shared-still : (script : Script) (held : Blackboard Nothing) (l : Line) (a : Bool)
    → is_process_line script l ≡ true
    → OutlinesThen held held
    (λ b. if a && not (is_process_line script l) then board_placed script b (operation_of l) else b)
shared-still script held l a shared b is =
    subst (λ (q : Bool). Outlines held
    (if q then board_placed script b (operation_of l) else b))
    (sym (shared-false a (is_process_line script l) shared)) is

-- what is found by outlines
pub held-found : (script : Script) (thread : Plain) (process : PlacedProcess)
    (state : ThreadState) (l : Line)
    → IsPlain thread state → HoldsPlaced script (plain_history script) process
    → reply_to_line script (if is_process_line script l then process.board else thread.board) l
    ≡ found script process.count state l
held-found script thread process state l is sees =
    reply_to_line-Stands (λ _ _. Unit {0}) script
    (if is_process_line script l then process.board else thread.board)
    (if is_process_line script l then process_board script (plain_history script) process.count else
    state.board)
    (by (is_process_line script l)) l
    ∙ found-is script process.count state l
  where
    by : (p : Bool) → Outlines (if p then process.board else thread.board)
        (if p then process_board script (plain_history script) process.count else state.board)
    by true = sees.holds
    by false = is.mine

-- a thread is kept as its line leaves it
pub kept-plain : (script : Script) (before : ℕ) (was is : Plain) (state : ThreadState) (l : Line)
    (a : Bool) → a ≡ is_accepted (found script before state l) → IsPlain was state
    → OutlinesThen was.board is.board
    (λ b. if a && not (is_process_line script l) then board_placed script b (operation_of l) else b)
    → is.clock ≡ (if a && not (is_process_line script l) then clock_after was.clock l else
    was.clock)
    → IsPlain is
    (state_after script (plain_history script) l (note_of script before was.seen state l) state)
kept-plain script before was is state l a accepted kept holds clock =
    subst (λ (a : Bool). IsPlain is
    (if a && not (is_process_line script l) then changed script (plain_history script) l
    (note_of script before was.seen state l) state else state))
    (accepted ∙ ap is_accepted (sym (found-noted script before was.seen state l)))
    (by (a && not (is_process_line script l)) (holds state.board kept.mine)
    (clock ∙ ap (λ c. if a && not (is_process_line script l) then clock_after c l else c)
    kept.clock))
  where
    by : (q : Bool) → Outlines is.board
        (if q then board_placed script state.board (operation_of l) else state.board)
        → is.clock ≡ (if q then clock_after state.clock l else state.clock)
        → IsPlain is (if q then changed script (plain_history script) l
        (note_of script before was.seen state l) state else state)
    by true holds clock = record { mine = holds; clock = clock }
    by false holds clock = record { mine = holds; clock = clock }

nothing-outlined : Outlines nothing_open nothing_open
nothing-outlined = record { references = tt; as_values = refl }

-- a thread before its first line
pub start-plain : (thread : Plain) → thread.board ≡ nothing_open → thread.clock ≡ 0
    → IsPlain thread at_start
start-plain thread board clock = record {
  mine = subst (λ b. Outlines b nothing_open) (sym board) nothing-outlined;
  clock = clock;
}

-- the process before its first operation
pub start-process : (script : Script) (history : List Placed) (process : PlacedProcess)
    → process.board ≡ nothing_open → process.count ≡ 0 → HoldsPlaced script history process
start-process script history process board count = record {
  holds = subst (λ n. Outlines process.board (process_board script history n)) (sym count)
      (subst (λ b. Outlines b nothing_open) (sym board) nothing-outlined);
  within = omega (arith, count);
}

-- the process after one operation more
pub process-more : (script : Script) (history : List Placed) (was is : PlacedProcess) (p : Placed)
    → HoldsPlaced script history was → p ≡ get_or history was.count p
    → was.count < length history
    → OutlinesThen was.board is.board (λ b. board_placed script b (placed_operation script p))
    → is.count ≡ was.count + 1
    → HoldsPlaced script history is
process-more script history was is p holds at below then_is count = record {
  holds = subst (λ n. Outlines is.board (process_board script history n)) (sym count)
      (subst (Outlines is.board) (board-more script history was.count p at below)
      (then_is (process_board script history was.count) holds.holds));
  within = omega (arith, count, below);
}

-- ---- the notes of lines and of threads

abbrev pub thread_note : Option ℕ → List LineNote → ThreadNote
thread_note start lines = record { start = start; lines = lines }

module _ (script : Script) where
  -- one line noted, of those that are left
  pub notes-drop : (before seen : ℕ) (state : ThreadState) (ls : List Line) (i : ℕ) (l : Line)
      (note : LineNote) (notes all : List LineNote)
      → i < length ls → l ≡ get_or ls i l → note ≡ note_of script before seen state l
      → notes ++ notes_from script before seen state (drop i ls) ≡ all
      → (notes ++ note ∷ []) ++ notes_from script (before_after script before l) note.seen
      (state_after script (plain_history script) l note state) (drop (i + 1) ls) ≡ all
  notes-drop before seen state ls i l note notes all below is made so_far =
      append_assoc notes _ _
      ∙ ap (λ (n : LineNote). notes ++ n ∷ notes_from script (before_after script before l) n.seen
      (state_after script (plain_history script) l n state) (drop (i + 1) ls)) made
      ∙ ap (λ ls. notes ++ notes_from script before seen state ls)
      (sym (drop-first ls i l below is))
      ∙ so_far

  -- one thread noted, of those that are left
  pub threads-drop : (before : ℕ) (ts : List (List Line)) (i : ℕ) (t : List Line) (start : Option ℕ)
      (lines : List LineNote)
      (notes all : List ThreadNote) → i < length ts → t ≡ get_or ts i t
      → start ≡ (if takes_start_reading script then Some 0 else None)
      → lines ≡ notes_from script before 0 at_start t
      → notes ++ threads_from script before (drop i ts) ≡ all
      → (notes ++ thread_note start lines ∷ [])
      ++ threads_from script (before + length (process_lines script t)) (drop (i + 1) ts) ≡ all
  threads-drop before ts i t start lines notes all below is starts made so_far =
      append_assoc notes _ _
      ∙ (λ j. notes ++ thread_note (starts j) (made j)
      ∷ threads_from script (before + length (process_lines script t)) (drop (i + 1) ts))
      ∙ ap (λ ts. notes ++ threads_from script before ts) (sym (drop-first ts i t below is))
      ∙ so_far

  pub notes-end : (before seen : ℕ) (state : ThreadState) (ls : List Line) (i : ℕ)
      (notes all : List LineNote) → length ls ≤ i
      → notes ++ notes_from script before seen state (drop i ls) ≡ all → notes ≡ all
  notes-end before seen state ls i notes all past so_far =
      sym (append-nil notes)
      ∙ ap (λ (ls : List Line). notes ++ notes_from script before seen state ls)
      (sym (drop-past ls i past))
      ∙ so_far

  pub threads-end : (before : ℕ) (ts : List (List Line)) (i : ℕ) (notes all : List ThreadNote)
      → length ts ≤ i
      → notes ++ threads_from script before (drop i ts) ≡ all → notes ≡ all
  threads-end before ts i notes all past so_far =
      sym (append-nil notes)
      ∙ ap (λ (ts : List (List Line)). notes ++ threads_from script before ts)
      (sym (drop-past ts i past))
      ∙ so_far
