-- A thread that runs behind all lines before it takes what the plain journal says, and is answered
-- so.
use Rattle.std.proofs.Common.{◌≡◌, ℕ, suc, ◌+◌, ◌-◌, ◌<◌, ◌≤◌, List, [], ◌∷◌, ◌++◌, Bool, true, false}
use Rattle.std.proofs.Common.{if◌then◌else◌, ◌&&◌, length, get_or, drop, ap, subst, sym, refl, ◌∙◌}
use Rattle.std.proofs.Common.{append_assoc, append-nil, arith}
use Rattle.std.specs.Prelude.{Option, Some, None, not, flat_map, unwrap_or, zip, sum_by, count_by}
use Rattle.std.specs.List.{list_any}
use Rattle.std.proofs.lemmas.List.Sums.{count_by-le-length, sum_by-cons}
use Rattle.cal_context.proofs.CallerLemmas.{Grows-trans}
use Rattle.cal_context.specs.Taking.{TakesMore}
use Rattle.cal_context.specs.Tree.{Tree, Grows}
use Rattle.cal_run.proofs.HeldLemmas.{Holds-Grows}
use Rattle.cal_run.proofs.LineLemmas.{reply_to_line-Holds, seen-is, seen-thread, start-thread}
use Rattle.cal_run.proofs.PlainLemmas.{drop-first, drop-past, found, found-is, found-noted, noted-is}
use Rattle.cal_run.proofs.RunLemmas.{seen_before-within}
use Rattle.cal_run.specs.Behind.{IsBehind, RunsBehind, taken_behind}
use Rattle.cal_run.specs.Held.{Holds, IsProcess}
use Rattle.cal_run.specs.History.{process_board}
use Rattle.cal_run.specs.Lawful.{process_lines, takes_start_reading}
use Rattle.cal_run.specs.Lines.{clock_after, is_process_line, takes}
use Rattle.cal_run.specs.Noting.{before_after, is_taken, noted, noted_as, seen_with}
use Rattle.cal_run.specs.Plain.{note_of, notes_from, plain, plain_history, threads_from}
use Rattle.cal_run.specs.Refused.{is_refused, refused_in, refused_of}
use Rattle.cal_run.specs.Runs.{snapshots, taken_by_thread, taken_from}
use Rattle.cal_run.specs.Steps.{ThreadState, at_start, changed, found_reply, is_accepted}
use Rattle.cal_run.specs.Steps.{previous_after, reply_to_line, seen_before, state_after, taken_in}
use Rattle.cal_run.specs.Threads.{IsThread, RunsLine}
use Rattle.cal_run.specs.Timers.{AreTimers}
use Rattle.cal_run.specs.declared.behind.Behind.{Behind}
use Rattle.cal_run.specs.declared.process.Process.{Process}
use Rattle.cal_run.specs.declared.thread.Thread.{Thread}
use Rattle.cal_script.specs.declared.journal.LineNote.{LineNote}
use Rattle.cal_script.specs.declared.journal.Placed.{Placed}
use Rattle.cal_script.specs.declared.journal.Reply as replies
use Rattle.cal_script.specs.declared.journal.ThreadNote.{ThreadNote}
use Rattle.cal_script.specs.declared.script.Channel.{Channel}
use Rattle.cal_script.specs.declared.script.Line.{Line}
use Rattle.cal_script.specs.declared.script.Script.{Script}
use Rattle.cal_value.specs.declared.record.Rec.{Rec}

-- ---- what a line has seen

-- what is taken in before a line is answered
pub first-more : (shared : Bool) (before count : ℕ) → count ≤ before
    → count ≤ (if shared then before else count)
first-more true before count less = less
first-more false before count less = omega arith

pub first-within : (shared : Bool) (before count all : ℕ) → count ≤ before → before ≤ all
    → (if shared then before else count) ≤ all
first-within true before count all less within = within
first-within false before count all less within = omega (arith, less, within)

module _ (script : Script) (l : Line) (shared : Bool) (kind : shared ≡ is_process_line script l)
    (before seen clock : ℕ) (reply : Option replies.Reply) (note : LineNote)
    (made : note ≡ noted script before seen clock l reply) where
  seen-made : note.seen ≡ (if shared then before + 1
      else (if is_taken script l reply then before else seen))
  seen-made = ap (λ (n : LineNote). n.seen) made
      ∙ ap (λ (p : Bool). if p then before + 1
      else (if is_taken script l reply then before else seen)) (sym kind)

  pub some-seen : shared ≡ true → 0 < note.seen
  some-seen so = let is : note.seen ≡ before + 1 = seen-made
      ∙ ap (λ (p : Bool). if p then before + 1
      else (if is_taken script l reply then before else seen)) so in
      omega (arith, is)

  -- what a line has seen, by cases
  module _ (count : ℕ) (taken : count ≤ seen) (less : seen ≤ before) where
    pub second-more : (if shared then before else count)
        ≤ (if shared then note.seen - 1 else note.seen)
    second-more = by shared (is_taken script l reply) seen-made
      where
        by : (p k : Bool) → note.seen ≡ (if p then before + 1 else (if k then before else seen))
            → (if p then before else count) ≤ (if p then note.seen - 1 else note.seen)
        by true k is = omega (arith, is)
        by false true is = omega (arith, is, taken, less)
        by false false is = omega (arith, is, taken)

  pub second-within : (all : ℕ) → seen ≤ before → before ≤ all
      → (if shared then note.seen - 1 else note.seen) ≤ all
  second-within all less within = by shared (is_taken script l reply) seen-made
    where
      by : (p k : Bool) → note.seen ≡ (if p then before + 1 else (if k then before else seen))
          → (if p then note.seen - 1 else note.seen) ≤ all
      by true k is = omega (arith, is, within)
      by false true is = omega (arith, is, within)
      by false false is = omega (arith, is, less, within)

  pub second-count : (count : ℕ) → count ≡ (if shared then note.seen - 1 else note.seen)
      → count ≡ (if shared then before else note.seen)
  second-count count counted = by shared (is_taken script l reply) seen-made counted
    where
      by : (p k : Bool) → note.seen ≡ (if p then before + 1 else (if k then before else seen))
          → count ≡ (if p then note.seen - 1 else note.seen)
          → count ≡ (if p then before else note.seen)
      by true k is counted = omega (arith, is, counted)
      by false k is counted = counted

  pub seen-bound : seen ≤ before → note.seen ≤ (if shared then before + 1 else before)
  seen-bound less = by shared (is_taken script l reply) seen-made
    where
      by : (p k : Bool) → note.seen ≡ (if p then before + 1 else (if k then before else seen))
          → note.seen ≤ (if p then before + 1 else before)
      by true k is = omega (arith, is)
      by false true is = omega (arith, is)
      by false false is = omega (arith, is, less)

-- the note of a line is made with the reading that the line takes
pub reading-made : (script : Script) (l : Line) (before seen clock : ℕ)
    (reply : Option replies.Reply) (accepted : Bool) → accepted ≡ is_accepted reply → (read : Bool)
    → read ≡ list_any (λ (c : Channel). c.timer && (accepted && takes script c l)) script.channels
    → (reading : Option ℕ) → reading ≡ (if read then Some clock else None)
    → noted_as script before seen l reply reading ≡ noted script before seen clock l reply
reading-made script l before seen clock reply accepted is read found reading made =
    ap (noted_as script before seen l reply)
    (made ∙ ap (λ (r : Bool). if r then Some clock else None)
    (found ∙ ap (λ (a : Bool). list_any (λ (c : Channel). c.timer && (a && takes script c l))
    script.channels) is))

-- ---- a line

-- what is found of a line by what is kept
behind-found : (t : Tree) (script : Script) (l : Line) (shared : Bool) (thread : Thread)
    (process : Process) (before other : ℕ) (state : ThreadState)
    → shared ≡ is_process_line script l → Holds t script thread.board state.board
    → IsProcess t script (plain_history script) process
    → process.count ≡ (if shared then before else other)
    → reply_to_line script (if shared then process.board else thread.board) l
    ≡ found script before state l
behind-found t script l shared thread process before other state kind mine sees count =
    reply_to_line-Holds t script (if shared then process.board else thread.board)
    (if shared then process_board script (plain_history script) before else state.board)
    (by shared count) l
    ∙ ap (λ (p : Bool). reply_to_line script
    (if p then process_board script (plain_history script) before else state.board) l) kind
    ∙ found-is script before state l
  where
    by : (p : Bool) → process.count ≡ (if p then before else other)
        → Holds t script (if p then process.board else thread.board)
        (if p then process_board script (plain_history script) before else state.board)
    by true count = subst (λ (n : ℕ). Holds t script process.board
        (process_board script (plain_history script) n)) count sees.holds
    by false count = mine

module _ {t0 t1 t2 : Tree} (old : Grows t0 t1) (new : Grows t1 t2) (script : Script)
    (was : Behind) (l : Line) (shared : Bool)
    (kind : shared ≡ is_process_line script l) (first second : Process)
    (sees : IsProcess t1 script (plain_history script) first)
    (count : first.count ≡ (if shared then was.before else was.thread.process.count))
    (reply : Option replies.Reply)
    (answer : reply ≡ reply_to_line script (if shared then first.board else was.thread.board) l)
    (note : LineNote) (made : note ≡ noted script was.before was.seen was.clock l reply)
    (sees_now : IsProcess t2 script (plain_history script) second)
    (count_now : second.count ≡ (if shared then note.seen - 1 else note.seen))
    (state : ThreadState) (previous : ℕ) (is : IsBehind t0 script was state previous) where
  told : reply ≡ found script was.before state l
  told = answer ∙ behind-found t1 script l shared was.thread first was.before
      was.thread.process.count state kind
      (Holds-Grows old script was.thread.board state.board is.thread.mine) sees count

  noted-so : note ≡ note_of script was.before was.seen state l
  noted-so = made ∙ (λ j. noted script was.before was.seen (is.clock j) l (told j))
      ∙ noted-is script was.before was.seen state l

  -- the thread with the process's board as the line has seen it
  abbrev met_behind : Thread
  met_behind = record {
    board = was.thread.board;
    readings = was.thread.readings;
    process = second;
    previous = was.thread.previous;
    timed = was.thread.timed;
  }

  pub behind-thread : IsThread t2 script (plain_history script) met_behind state previous
  behind-thread = seen-thread (Grows-trans _ _ _ old new) script (plain_history script) was.thread
      second state previous is.thread sees_now

  pub behind-answer : (accepted : Bool) → accepted ≡ is_accepted reply
      → accepted ≡ is_accepted
      (reply_to_line script (if shared then second.board else was.thread.board) l)
  behind-answer accepted is_so = is_so ∙ ap is_accepted (told ∙ sym (
      behind-found t2 script l shared was.thread second was.before note.seen state kind
      (Holds-Grows (Grows-trans _ _ _ old new) script was.thread.board state.board is.thread.mine)
      sees_now
      (second-count script l shared kind was.before was.seen was.clock reply note made second.count
      count_now)))

  abbrev noted_here : LineNote
  noted_here = note_of script was.before was.seen state l

  module _ {t3 : Tree} (channel : Channel) (now : Behind) (accepted : Bool)
      (accepts : accepted ≡ is_accepted reply) (had has : List Rec → Type 0)
      (runs : RunsLine t3 script (plain_history script) now.thread channel l note had has state
      previous)
      (process : now.thread.process ≡ second) (seen : now.seen ≡ note.seen)
      (clock : now.clock
      ≡ (if accepted && not shared then clock_after was.clock l else was.clock))
      (before : now.before ≡ (if shared then was.before + 1 else was.before))
      (timers : now.timers ≡ was.timers) where
    clock-so : now.clock ≡ (state_after script (plain_history script) l noted_here state).clock
    clock-so = clock
        ∙ (λ j. if accepts_so j && not (kind j) then clock_after (is.clock j) l else is.clock j)
        ∙ by (is_accepted (found_reply script (plain_history script) l noted_here state)
        && not (is_process_line script l))
      where
        accepts_so : accepted
            ≡ is_accepted (found_reply script (plain_history script) l noted_here state)
        accepts_so = accepts ∙ ap is_accepted told
            ∙ ap is_accepted (sym (found-noted script was.before was.seen state l))

        by : (q : Bool) → (if q then clock_after state.clock l else state.clock)
            ≡ (if q then changed script (plain_history script) l noted_here state else state).clock
        by true = refl
        by false = refl

    pub runs-behind : RunsBehind t3 script was now channel l note.reply had has state previous
    runs-behind = record {
      answered = ap (λ (n : LineNote). n.reply) noted-so;
      seen = seen ∙ ap (λ (n : LineNote). n.seen) noted-so;
      taken = subst (λ (n : LineNote). TakesMore had has
          (taken_in script (plain_history script) l n state channel previous)) noted-so runs.taken;
      kept = record {
        thread = subst (λ (n : LineNote). IsThread t3 script (plain_history script) now.thread
            (state_after script (plain_history script) l n state)
            (previous_after script (plain_history script) l n state channel previous)) noted-so
            runs.kept;
        clock = clock-so;
        taken_in =
            (let same = ap (λ (p : Process). p.count) process in
            let counted = seen-is script (plain_history script) l note shared second.count kind
            count_now in
            let within = seen_before-within script (plain_history script) l note in
            omega (arith, same, counted, within, seen));
        seen =
            (let bound = seen-bound script l shared kind was.before was.seen was.clock reply note made
            is.seen in
            omega (arith, bound, seen, before));
        timers = subst (AreTimers script) (sym timers) is.timers;
      };
    }

-- ---- the lines of a thread

module _ (script : Script) (channel : Channel) where
  -- one line more is taken off those that are left
  pub behind-drop : (before seen : ℕ) (state : ThreadState) (previous : ℕ) (ls : List Line) (i : ℕ)
      (l : Line) (taken all : List Rec) → i < length ls → l ≡ get_or ls i l
      → taken ++ taken_behind script channel before seen state previous (drop i ls) ≡ all
      → (taken ++ taken_in script (plain_history script) l (note_of script before seen state l)
      state channel previous)
      ++ taken_behind script channel (before_after script before l)
      (note_of script before seen state l).seen
      (state_after script (plain_history script) l (note_of script before seen state l) state)
      (previous_after script (plain_history script) l (note_of script before seen state l) state
      channel previous) (drop (i + 1) ls) ≡ all
  behind-drop before seen state previous ls i l taken all below is so_far =
      append_assoc taken _ _
      ∙ ap (λ (ls : List Line). taken ++ taken_behind script channel before seen state previous ls)
      (sym (drop-first ls i l below is))
      ∙ so_far

  pub behind-end : (before seen : ℕ) (state : ThreadState) (previous : ℕ) (ls : List Line) (i : ℕ)
      (taken all : List Rec) → length ls ≤ i
      → taken ++ taken_behind script channel before seen state previous (drop i ls) ≡ all
      → taken ≡ all
  behind-end before seen state previous ls i taken all past so_far =
      sym (append-nil taken)
      ∙ ap (λ (ls : List Line). taken ++ taken_behind script channel before seen state previous ls)
      (sym (drop-past ls i past))
      ∙ so_far

  -- one thread more is taken off those that are left
  abbrev pub threads_behind : (before : ℕ) → List (List Line) → List Rec
  threads_behind before ts = flat_map (taken_by_thread script (plain_history script) channel)
      (zip ts (threads_from script before ts))

  starts : (b : Bool) → ◌≡◌ {A = ℕ} (unwrap_or (if b then Some 0 else None) 0) 0
  starts true = refl
  starts false = refl

  pub threads-drop_behind : (before next : ℕ) (ts : List (List Line)) (i : ℕ) (t : List Line)
      (taken all : List Rec) → i < length ts → t ≡ get_or ts i t
      → next ≡ before + length (process_lines script t)
      → taken ++ threads_behind before (drop i ts) ≡ all
      → (taken ++ taken_behind script channel before 0 at_start 0 t)
      ++ threads_behind next (drop (i + 1) ts) ≡ all
  threads-drop_behind before next ts i t taken all below is behind so_far =
      append_assoc taken _ _
      ∙ (λ j. taken ++ (taken_from script (plain_history script) channel at_start
      (sym (starts (takes_start_reading script)) j)
      (zip t (notes_from script before 0 at_start t))
      ++ threads_behind (behind j) (drop (i + 1) ts)))
      ∙ ap (λ (ts : List (List Line)). taken ++ threads_behind before ts)
      (sym (drop-first ts i t below is))
      ∙ so_far

  pub threads-end_behind : (before : ℕ) (ts : List (List Line)) (i : ℕ) (taken all : List Rec)
      → length ts ≤ i → taken ++ threads_behind before (drop i ts) ≡ all → taken ≡ all
  threads-end_behind before ts i taken all past so_far =
      sym (append-nil taken)
      ∙ ap (λ (ts : List (List Line)). taken ++ threads_behind before ts)
      (sym (drop-past ts i past))
      ∙ so_far

-- ---- the lines that are refused

pub one-most : (b : Bool) (n : ℕ) → n ≡ (if b then 1 else 0) → n ≤ 1
one-most true n is = omega (arith, is)
one-most false n is = omega (arith, is)

module _ (script : Script) where
  -- one line counted, of those that are left
  pub refused-drop : (before seen : ℕ) (state : ThreadState) (ls : List Line) (i : ℕ) (l : Line)
      (refused one all : ℕ) → i < length ls → l ≡ get_or ls i l
      → one ≡ (if is_refused (note_of script before seen state l).reply then 1 else 0)
      → refused + refused_of (notes_from script before seen state (drop i ls)) ≡ all
      → (refused + one) + refused_of (notes_from script (before_after script before l)
      (note_of script before seen state l).seen
      (state_after script (plain_history script) l (note_of script before seen state l) state)
      (drop (i + 1) ls)) ≡ all
  refused-drop before seen state ls i l refused one all below is counted so_far =
      let note = note_of script before seen state l in
      let first = ap (λ (ls : List Line). refused_of (notes_from script before seen state ls))
      (drop-first ls i l below is) in
      let more = sum_by-cons (λ (n : LineNote). if is_refused n.reply then 1 else 0) note
      (notes_from script (before_after script before l) note.seen
      (state_after script (plain_history script) l note state) (drop (i + 1) ls)) in
      omega (arith, first, more, counted, so_far)

  pub refused-end : (before seen : ℕ) (state : ThreadState) (ls : List Line) (i refused all : ℕ)
      → length ls ≤ i
      → refused + refused_of (notes_from script before seen state (drop i ls)) ≡ all
      → refused ≡ all
  refused-end before seen state ls i refused all past so_far =
      let none = ap (λ (ls : List Line). refused_of (notes_from script before seen state ls))
      (drop-past ls i past) in
      omega (arith, none, so_far)

  -- no more than there are lines
  pub refused-few : (before seen : ℕ) (state : ThreadState) (ls : List Line)
      → refused_of (notes_from script before seen state ls) ≤ length ls
  refused-few before seen state ls =
      let few = count_by-le-length (λ (n : LineNote). is_refused n.reply)
      (notes_from script before seen state ls) in
      let long = as-long before seen state ls in
      omega (arith, few, long)
    where
      as-long : (before seen : ℕ) (state : ThreadState) (ls : List Line)
          → length (notes_from script before seen state ls) ≡ length ls
      as-long before seen state [] = refl
      as-long before seen state (l ∷ ls) =
          let note = note_of script before seen state l in
          ap suc (as-long (before_after script before l) note.seen
          (state_after script (plain_history script) l note state) ls)

  -- one thread counted, of those that are left
  pub refused-drop_threads : (before next : ℕ) (ts : List (List Line)) (i : ℕ) (t : List Line)
      (refused one all : ℕ) → i < length ts → t ≡ get_or ts i t
      → next ≡ before + length (process_lines script t)
      → one ≡ refused_of (notes_from script before 0 at_start t)
      → refused + refused_in (threads_from script before (drop i ts)) ≡ all
      → (refused + one) + refused_in (threads_from script next (drop (i + 1) ts)) ≡ all
  refused-drop_threads before next ts i t refused one all below is behind counted so_far =
      let first = ap (λ (ts : List (List Line)). refused_in (threads_from script before ts))
      (drop-first ts i t below is) in
      let note : ThreadNote = record {
        start = if takes_start_reading script then Some 0 else None;
        lines = notes_from script before 0 at_start t;
      } in
      let more = sum_by-cons (λ (n : ThreadNote). refused_of n.lines) note
      (threads_from script (before + length (process_lines script t)) (drop (i + 1) ts)) in
      let same = ap (λ (n : ℕ). refused_in (threads_from script n (drop (i + 1) ts))) behind in
      omega (arith, first, more, counted, same, so_far)

  pub refused-end_threads : (before : ℕ) (ts : List (List Line)) (i refused all : ℕ)
      → length ts ≤ i → refused + refused_in (threads_from script before (drop i ts)) ≡ all
      → refused ≡ all
  refused-end_threads before ts i refused all past so_far =
      let none = ap (λ (ts : List (List Line)). refused_in (threads_from script before ts))
      (drop-past ts i past) in
      omega (arith, none, so_far)

  pub refused-few_threads : (before : ℕ) (ts : List (List Line))
      → refused_in (threads_from script before ts) ≤ sum_by length ts
  refused-few_threads before [] = omega arith
  refused-few_threads before (t ∷ ts) =
      let next : ℕ = before + length (process_lines script t) in
      let note : ThreadNote = record {
        start = if takes_start_reading script then Some 0 else None;
        lines = notes_from script before 0 at_start t;
      } in
      let rest = refused-few_threads next ts in
      let one = refused-few before 0 at_start t in
      let left = sum_by-cons (λ (n : ThreadNote). refused_of n.lines) note
      (threads_from script next ts) in
      let right = sum_by-cons {X = List Line} length t ts in
      omega (arith, rest, one, left, right)

-- ---- before the first line

pub start-behind : (t : Tree) (script : Script) (behind : Behind) (before : ℕ)
    → IsThread t script (plain_history script) behind.thread at_start 0
    → behind.thread.process.count ≡ 0 → behind.clock ≡ 0 → behind.seen ≡ 0
    → behind.before ≡ before → AreTimers script behind.timers → IsBehind t script behind at_start 0
start-behind t script behind before thread count clock seen is timers = record {
  thread = thread;
  clock = clock;
  taken_in = omega (arith, count);
  seen = omega (arith, seen);
  timers = timers;
}
