-- The plain journal is lawful.
use Rattle.std.proofs.Common.{◌≡◌, ℕ, suc, zero, ◌+◌, ◌-◌, ◌<◌, ◌≤◌, List, [], ◌∷◌, ◌++◌, Bool}
use Rattle.std.proofs.Common.{true, false, if◌then◌else◌, ◌&&◌, ◌==◌, length, map, ap, subst, sym}
use Rattle.std.proofs.Common.{refl, ◌∙◌, append_assoc, append-nil, arith}
use Rattle.std.specs.Prelude.{Option, Some, None, not, flat_map, unwrap_or, slice_get}
use Rattle.std.specs.Prelude.{slice_index_or, zip}
use Rattle.std.specs.List.{All, AllZip, cons_option, enumerate_from, list_any}
use Rattle.std.proofs.lemmas.Bool.{eq-eqb, ne_eqb}
use Rattle.std.proofs.lemmas.List.{length-append, length-map}
use Rattle.std.proofs.lemmas.List.Elements.{All-append, All-cons, All-nil, filter_map-append}
use Rattle.std.proofs.lemmas.Option.{slice_get_within}
use Rattle.cal_board.specs.Blackboard.{Blackboard}
use Rattle.cal_run.proofs.LawLemmas.{lawful-read}
use Rattle.cal_run.proofs.PlainLemmas.{found, found-noted, numbers-cons, numbers_from, place}
use Rattle.cal_run.specs.Lawful.{IsAnswer, IsAnswered, IsFlushReply, IsKnown, IsRead, Lawful}
use Rattle.cal_run.specs.Lawful.{LineIsRead, NotedLine, SeenFixed, SeenOwn, SeenRises, SeenWithin}
use Rattle.cal_run.specs.Lawful.{StartIsRead, names_process_line, noted_from, noted_of, placed_of}
use Rattle.cal_run.specs.Lawful.{process_lines, takes_start_reading}
use Rattle.cal_run.specs.Lines.{is_process_line, line_at, takes}
use Rattle.cal_run.specs.Plain.{met, note_of, notes_from, placed_lines, plain, plain_history}
use Rattle.cal_run.specs.Plain.{threads_from}
use Rattle.cal_run.specs.Seeing.{CanBeRead}
use Rattle.cal_run.specs.Steps.{ThreadState, acted_on, at_start, is_accepted, is_read, looks}
use Rattle.cal_run.specs.Steps.{reply_to_line, state_after}
use Rattle.cal_script.specs.declared.journal.LineNote.{LineNote}
use Rattle.cal_script.specs.declared.journal.Placed.{Placed}
use Rattle.cal_script.specs.declared.journal.Reply as replies
use Rattle.cal_script.specs.declared.journal.Reply.TheVariants as reply
use Rattle.cal_script.specs.declared.journal.ThreadNote.{ThreadNote}
use Rattle.cal_script.specs.declared.script.Line as lines
use Rattle.cal_script.specs.declared.script.Line.TheVariants as line
use Rattle.cal_script.specs.declared.script.Script.{Script}
use Rattle.cal_value.specs.declared.variant.Variant.{Variant}

-- ---- lists

module _ {A : Type 0} where
  slice_get-behind : (xs : List A) (x : A) (ys : List A)
      → slice_get (xs ++ x ∷ ys) (length xs) ≡ Some x
  slice_get-behind [] x ys = refl
  slice_get-behind (z ∷ xs) x ys = slice_get-behind xs x ys

  index-behind : (xs : List A) (x : A) (ys : List A) (d : A)
      → slice_index_or (xs ++ x ∷ ys) (length xs) d ≡ x
  index-behind [] x ys d = refl
  index-behind (z ∷ xs) x ys d = index-behind xs x ys d

  -- the first of what is left goes to the front
  moved : (all front : List A) (x : A) (rest : List A) → all ≡ front ++ x ∷ rest
      → all ≡ (front ++ x ∷ []) ++ rest
  moved all front x rest is = is ∙ sym (append_assoc front (x ∷ []) rest)

  moved-long : (front : List A) (x : A) → length (front ++ x ∷ []) ≡ length front + 1
  moved-long front x = length-append front (x ∷ [])

  moved-all : (all front xs rest : List A) → all ≡ front ++ (xs ++ rest)
      → all ≡ (front ++ xs) ++ rest
  moved-all all front xs rest is = is ∙ sym (append_assoc front xs rest)

-- ---- shape

module _ (script : Script) where
  notes-long : (before seen : ℕ) (state : ThreadState) (ls : List lines.Line)
      → length (notes_from script before seen state ls) ≡ length ls
  notes-long before seen state [] = refl
  notes-long before seen state (l ∷ ls) =
      let note = note_of script before seen state l in
      ap suc (notes-long (if is_process_line script l then before + 1 else before) note.seen
      (state_after script (plain_history script) l note state) ls)

  abbrev Fits : List lines.Line → ThreadNote → Type 0
  Fits thread note = length note.lines ≡ length thread

  threads-fit : (before : ℕ) (ts : List (List lines.Line))
      → AllZip Fits ts (threads_from script before ts)
  threads-fit before [] = tt
  threads-fit before (t ∷ ts) =
      (notes-long before 0 at_start t, threads-fit (before + length (process_lines script t)) ts)

  -- ---- the history

  unless-zero : (b : Bool) (o p : Option lines.Line) → b ≡ false → o ≡ p
      → (if b then None else o) ≡ p
  unless-zero true o p e is = absurd cc
  unless-zero false o p e is = is

  not-zero : (n : ℕ) → (n + 1 == 0) ≡ false
  not-zero n = ne_eqb (n + 1) 0 (λ e. omega (arith, e))

  line_at-is : (thread n : ℕ) (whole : List lines.Line) (l : lines.Line)
      → slice_index_or script.threads thread [] ≡ whole
      → slice_get whole n ≡ Some l → line_at script thread (n + 1) ≡ Some l
  line_at-is thread n whole l is at =
      let back : n + 1 - 1 ≡ n = omega arith in
      unless-zero (n + 1 == 0) (slice_get (slice_index_or script.threads thread []) (n + 1 - 1))
      (Some l) (not-zero n)
      ((λ j. slice_get (is j) (back j)) ∙ at)

  -- what is placed of a thread are process lines
  known-lines : (thread : ℕ) (whole done ls : List lines.Line)
      → slice_index_or script.threads thread [] ≡ whole → whole ≡ done ++ ls
      → (k : ℕ) → k ≡ length done + 1
      → All (IsKnown script) (map (place thread) (numbers_from script k ls))
  known-lines thread whole done [] of_thread is k at = All-nil (IsKnown script)
  known-lines thread whole done (l ∷ ls) of_thread is k at =
      let more = moved-long done l in
      by (is_process_line script l) refl
      (known-lines thread whole (done ++ l ∷ []) ls of_thread (moved whole done l ls is) (k + 1)
      (omega (arith, at, more)))
    where
      found_there : line_at script thread k ≡ Some l
      found_there = ap (line_at script thread) at
          ∙ line_at-is thread (length done) whole l of_thread
          (ap (λ ls. slice_get ls (length done)) is ∙ slice_get-behind done l ls)

      here : is_process_line script l ≡ true → IsKnown script (place thread k)
      here process = ap (names_process_line script) found_there ∙ process

      by : (p : Bool) → is_process_line script l ≡ p
          → All (IsKnown script) (map (place thread) (numbers_from script (k + 1) ls))
          → All (IsKnown script) (map (place thread) (numbers_from script k (l ∷ ls)))
      by true e rest = subst (λ (ns : List ℕ). All (IsKnown script) (map (place thread) ns))
          (sym (numbers-cons script k l ls true e))
          (All-cons (IsKnown script) (place thread k)
          (map (place thread) (numbers_from script (k + 1) ls)) (here e) rest)
      by false e rest = subst (λ (ns : List ℕ). All (IsKnown script) (map (place thread) ns))
          (sym (numbers-cons script k l ls false e)) rest

  known-threads : (done ts : List (List lines.Line)) → script.threads ≡ done ++ ts → (k : ℕ)
      → k ≡ length done
      → All (IsKnown script) (flat_map (placed_lines script) (enumerate_from k ts))
  known-threads done [] is k at = All-nil (IsKnown script)
  known-threads done (t ∷ ts) is k at =
      let of_thread : slice_index_or script.threads k [] ≡ t =
      (λ j. slice_index_or (is j) (at j) []) ∙ index-behind done t ts [] in
      let more = moved-long done t in
      All-append (IsKnown script) (placed_lines script (k, t))
      (flat_map (placed_lines script) (enumerate_from (k + 1) ts))
      (known-lines k t [] t of_thread refl 1 refl)
      (known-threads (done ++ t ∷ []) ts (moved script.threads done t ts is) (k + 1)
      (omega (arith, at, more)))

  -- those of a thread are its process lines, in order
  same-thread : (k : ℕ) (ns : List ℕ) → placed_of k (map (place k) ns) ≡ ns
  same-thread k [] = refl
  same-thread k (n ∷ ns) =
      ap (λ (b : Bool). cons_option (if b then Some n else None) (placed_of k (map (place k) ns)))
      (eq-eqb k k refl)
      ∙ ap (λ ns. n ∷ ns) (same-thread k ns)

  other-thread : (j k : ℕ) (ns : List ℕ) → (k == j) ≡ false → placed_of j (map (place k) ns) ≡ []
  other-thread j k [] e = refl
  other-thread j k (n ∷ ns) e =
      ap (λ (b : Bool). cons_option (if b then Some n else None) (placed_of j (map (place k) ns))) e
      ∙ other-thread j k ns e

  apart : (j k : ℕ) (t : List lines.Line) (ts : List (List lines.Line))
      → placed_of j (flat_map (placed_lines script) (enumerate_from k (t ∷ ts)))
      ≡ placed_of j (placed_lines script (k, t)) ++ placed_of j
      (flat_map (placed_lines script) (enumerate_from (k + 1) ts))
  apart j k t ts = filter_map-append
      (λ (op : Placed). if op.thread == j then Some op.line else None)
      (placed_lines script (k, t)) (flat_map (placed_lines script) (enumerate_from (k + 1) ts))

  later-threads : (j k : ℕ) (ts : List (List lines.Line)) → j < k
      → placed_of j (flat_map (placed_lines script) (enumerate_from k ts)) ≡ []
  later-threads j k [] less = refl
  later-threads j k (t ∷ ts) less =
      apart j k t ts
      ∙ ap (λ ns. ns ++ placed_of j (flat_map (placed_lines script) (enumerate_from (k + 1) ts)))
      (other-thread j k (process_lines script t) (ne_eqb k j (λ e. omega (arith, e, less))))
      ∙ later-threads j (k + 1) ts (omega (arith, less))

  same_some : {A : Type 0} (x y : A) → Some x ≡ Some y → x ≡ y
  same_some x y e = cc

  own-thread : (k i j : ℕ) (ts : List (List lines.Line)) (ls : List lines.Line) → j ≡ k + i
      → slice_get ts i ≡ Some ls
      → placed_of j (flat_map (placed_lines script) (enumerate_from k ts)) ≡ process_lines script ls
  own-thread k i j [] ls at is = absurd cc
  own-thread k zero j (t ∷ ts) ls at is =
      let same : j ≡ k = omega (arith, at) in
      apart j k t ts
      ∙ ap (λ ns. placed_of j (placed_lines script (k, t)) ++ ns)
      (later-threads j (k + 1) ts (omega (arith, at)))
      ∙ append-nil (placed_of j (placed_lines script (k, t)))
      ∙ ap (λ j. placed_of j (placed_lines script (k, t))) same
      ∙ same-thread k (process_lines script t)
      ∙ ap (process_lines script) (same_some t ls is)
  own-thread k (suc i) j (t ∷ ts) ls at is =
      apart j k t ts
      ∙ ap (λ ns. ns ++ placed_of j (flat_map (placed_lines script) (enumerate_from (k + 1) ts)))
      (other-thread j k (process_lines script t) (ne_eqb k j (λ e. omega (arith, e, at))))
      ∙ own-thread (k + 1) i j ts ls (omega (arith, at)) is

  -- ---- readings and replies

  read-if : (due : Bool) (clock : ℕ)
      → IsRead script (plain script) due clock (if due then Some clock else None)
  read-if true clock = record { there = refl; value = λ real due. refl }
  read-if false clock = record { there = refl; value = λ real due. absurd cc }

  starts-read : (before : ℕ) (ts : List (List lines.Line))
      → All (StartIsRead script (plain script)) (threads_from script before ts)
  starts-read before [] = All-nil (StartIsRead script (plain script))
  starts-read before (t ∷ ts) =
      let next : ℕ = before + length (process_lines script t) in
      All-cons (StartIsRead script (plain script))
      (record {
        start = if takes_start_reading script then Some 0 else None;
        lines = notes_from
            script before 0 at_start t;
      })
      (threads_from script next ts) (read-if (takes_start_reading script) 0) (starts-read next ts)

  abbrev IsFlush : lines.Line → Type 0
  IsFlush l = (c : ℕ) × (l ≡ line.Flush c)

  -- only a flush has no reply of its own
  only-flush : (b : Blackboard Variant) (l : lines.Line) → reply_to_line script b l ≡ None
      → IsFlush l
  only-flush b (line.Begin a v) e = absurd cc
  only-flush b (line.End a) e = absurd cc
  only-flush b (line.Set a v) e = absurd cc
  only-flush b line.Snapshot e = absurd cc
  only-flush b (line.Flush c) e = (c, refl)
  only-flush b (line.Tick n) e = absurd cc

  flushed : (thread : ℕ) (l : lines.Line) (r : replies.Reply) → IsFlush l → r ≡ reply.Merged
      → IsFlushReply script (plain script) thread l r
  flushed thread l r flush merged =
      subst (IsFlushReply script (plain script) thread l) (sym merged)
      (subst (λ l. IsFlushReply script (plain script) thread l reply.Merged) (sym flush.1) tt)

  answer : (n : NotedLine) (f : Option replies.Reply) → (f ≡ None → IsFlush n.line)
      → n.note.reply ≡ unwrap_or f reply.Merged
      → IsAnswer script (plain script) n f
  answer n None flush e = flushed n.thread n.line n.note.reply (flush refl) e
  answer n (Some r) flush e = e

if-true : {A : Type 0} (p : Bool) (x y : A) → p ≡ true → (if p then x else y) ≡ x
if-true true x y e = refl
if-true false x y e = absurd cc

if-false : {A : Type 0} (p : Bool) (x y : A) → p ≡ false → (if p then x else y) ≡ y
if-false true x y e = absurd cc
if-false false x y e = refl

-- ---- a line

-- every rule of a line at once
pub record Keeps (script : Script) (n : NotedLine) : Type 0 where
  pub rises : SeenRises script (plain script) n
  pub within : SeenWithin script (plain script) n
  pub own : SeenOwn script (plain script) n
  pub fixed : SeenFixed script (plain script) n
  pub read : LineIsRead script (plain script) n
  pub answered : IsAnswered script (plain script) n

module _ (script : Script) (thread number before seen : ℕ) (state : ThreadState)
    (l : lines.Line) where
  abbrev h : List Placed
  h = plain_history script

  abbrev note : LineNote
  note = note_of script before seen state l

  abbrev here : NotedLine
  here = record {
    thread = thread;
    number = number;
    line = l;
    note = note;
    before = seen;
    state = state;
  }

  abbrev looks_met : Bool
  looks_met = looks script h l (met script before state l) state

  looks-noted : looks script h l note state ≡ looks_met
  looks-noted =
      ap (λ (f : Option replies.Reply). list_any
      (λ channel. is_accepted f && takes script channel l) script.channels
      && not (is_process_line script l)) (found-noted script before seen state l)

  read-noted : is_read script h l note state ≡ is_read script h l (met script before state l) state
  read-noted =
      ap (λ (f : Option replies.Reply). list_any
      (λ channel. channel.timer && (is_accepted f && takes script channel l)) script.channels)
      (found-noted script before seen state l)

  -- the operations seen by the note's rule
  seen-rises : seen ≤ before → seen ≤ note.seen
  seen-rises less = by (is_process_line script l) looks_met
    where
      by : (p k : Bool) → seen ≤ (if p then before + 1 else (if k then before else seen))
      by true k = omega (arith, less)
      by false true = less
      by false false = omega arith

  seen-within : seen ≤ before → before ≤ length h
      → (is_process_line script l ≡ true → before < length h) → note.seen ≤ length h
  seen-within less within room = by (is_process_line script l) looks_met room
    where
      by : (p k : Bool) → (p ≡ true → before < length h)
          → (if p then before + 1 else (if k then before else seen)) ≤ length h
      by true k room = let one = room refl in omega (arith, one)
      by false true room = within
      by false false room = omega (arith, less, within)

  seen-next : seen ≤ before → note.seen ≤ (if is_process_line script l then before + 1 else before)
  seen-next less = by (is_process_line script l) looks_met
    where
      by : (p k : Bool) → (if p then before + 1 else (if k then before else seen))
          ≤ (if p then before + 1 else before)
      by true k = omega arith
      by false true = omega arith
      by false false = less

  sees-own : seen ≤ before → (is_process_line script l ≡ true
      → slice_get h before ≡ Some (place thread number))
      → SeenOwn script (plain script) here
  sees-own less own process =
      let is : note.seen ≡ before + 1 =
      if-true (is_process_line script l) (before + 1) (if looks_met then before else seen)
      process in
      let back : note.seen - 1 ≡ before = omega (arith, is) in
      record {
        some = omega (arith, is);
        own = ap (slice_get h) back ∙ own process;
        before = omega (arith, is, less);
      }

  seen-fixed : SeenFixed script (plain script) here
  seen-fixed process looks =
      if-false (is_process_line script l) (before + 1) (if looks_met then before else seen) process
      ∙ if-false looks_met before seen (sym looks-noted ∙ looks)

  pub line-keeps : seen ≤ before → before ≤ length h
      → (is_process_line script l ≡ true → slice_get h before ≡ Some (place thread number))
      → Keeps script here
  line-keeps less within own = record {
    rises = seen-rises less;
    within = seen-within less within
        (λ process. slice_get_within h before (place thread number) (own process));
    own = sees-own less own;
    fixed = seen-fixed;
    read = subst (λ due. IsRead script (plain script) due state.clock note.reading) (sym read-noted)
        (read-if script (is_read script h l (met script before state l) state) state.clock);
    answered = subst (IsAnswer script (plain script) here)
        (sym (found-noted script before seen state l))
        (answer script here (found script before state l)
        (only-flush script (acted_on script h l (met script before state l) state) l) refl);
  }

-- ---- all lines

module _ (script : Script) where
  -- the history at a line: what is placed before it, and what it and the lines behind it place
  record Step (thread number before : ℕ) (l : lines.Line) (ls : List lines.Line)
      (back : List Placed) : Type 0 where
    pub front : List Placed
    pub cut : plain_history script
        ≡ front ++ (map (place thread) (numbers_from script (number + 1) ls) ++ back)
    pub long : length front ≡ (if is_process_line script l then before + 1 else before)
    pub own : is_process_line script l ≡ true
        → slice_get (plain_history script) before ≡ Some (place thread number)

  step : (thread number before : ℕ) (l : lines.Line) (ls : List lines.Line)
      (front back : List Placed)
      → plain_history script ≡ front
      ++ (map (place thread) (numbers_from script number (l ∷ ls)) ++ back) → length front ≡ before
      → Step thread number before l ls back
  step thread number before l ls front back is long = by (is_process_line script l) refl
    where
      by : (p : Bool) → is_process_line script l ≡ p → Step thread number before l ls back
      by true e =
          let cut : plain_history script
          ≡ front ++ place thread number
          ∷ (map (place thread) (numbers_from script (number + 1) ls) ++ back) =
          is ∙ ap (λ ns. front ++ (map (place thread) ns ++ back))
          (numbers-cons script number l ls true e) in
          let more = moved-long front (place thread number) in
          record {
            front = front ++ place thread number ∷ [];
            cut = moved (plain_history script) front (place thread number) _ cut;
            long = more ∙ ap (λ n. n + 1) long
                ∙ sym (if-true (is_process_line script l) (before + 1) before e);
            own = λ process. (λ j. slice_get (cut j) (sym long j))
                ∙ slice_get-behind front (place thread number) _;
          }
      by false e = record {
        front = front;
        cut = is ∙ ap (λ ns. front ++ (map (place thread) ns ++ back))
            (numbers-cons script number l ls false e);
        long = long ∙ sym (if-false (is_process_line script l) (before + 1) before e);
        own = λ process. absurd cc;
      }

  lines-keep : (thread number before seen : ℕ) (state : ThreadState) (ls : List lines.Line)
      (front back : List Placed)
      → plain_history script ≡ front ++ (map (place thread) (numbers_from script number ls) ++ back)
      → length front ≡ before
      → seen ≤ before
      → All (Keeps script) (noted_from script (plain_history script) thread number seen state
      (zip ls (notes_from script before seen state ls)))
  lines-keep thread number before seen state [] front back is long less = All-nil (Keeps script)
  lines-keep thread number before seen state (l ∷ ls) front back is long less =
      let s = step thread number before l ls front back is long in
      let all = ap length is in
      let sum = length-append front
      (map (place thread) (numbers_from script number (l ∷ ls)) ++ back) in
      let n : LineNote = note_of script before seen state l in
      let next : ℕ = if is_process_line script l then before + 1 else before in
      let after : ThreadState = state_after script (plain_history script) l n state in
      All-cons (Keeps script) (here script thread number before seen state l)
      (noted_from script (plain_history script) thread (number + 1) n.seen after
      (zip ls (notes_from script next n.seen after ls)))
      (line-keeps script thread number before seen state l less (omega (arith, all, sum, long))
      s.own)
      (lines-keep thread (number + 1) next n.seen after ls s.front back s.cut s.long
      (seen-next script thread number before seen state l less))

  threads-keep : (k before : ℕ) (ts : List (List lines.Line)) (front : List Placed)
      → plain_history script ≡ front ++ flat_map (placed_lines script) (enumerate_from k ts)
      → length front ≡ before
      → All (Keeps script) (flat_map (noted_of script (plain_history script))
      (enumerate_from k (zip ts (threads_from script before ts))))
  threads-keep k before [] front is long = All-nil (Keeps script)
  threads-keep k before (t ∷ ts) front is long =
      let next : ℕ = before + length (process_lines script t) in
      let sum = length-append front (placed_lines script (k, t)) in
      let one = length-map (process_lines script t) (place k) in
      let note : ThreadNote = record {
        start = if takes_start_reading script then Some 0 else None;
        lines = notes_from script before 0 at_start t;
      } in
      All-append (Keeps script) (noted_of script (plain_history script) (k, (t, note)))
      (flat_map (noted_of script (plain_history script))
      (enumerate_from (k + 1) (zip ts (threads_from script next ts))))
      (lines-keep k 1 before 0 at_start t front
      (flat_map (placed_lines script) (enumerate_from (k + 1) ts)) is long (omega arith))
      (threads-keep (k + 1) next ts (front ++ placed_lines script (k, t))
      (moved-all (plain_history script) front (placed_lines script (k, t)) _ is)
      (omega (arith, sum, one, long)))

  -- the plain journal keeps every rule
  pub plain-lawful : Lawful script (plain script)
  plain-lawful =
      let all = threads-keep 0 0 script.threads [] refl refl in
      record {
        shape = threads-fit script 0 script.threads;
        known = known-threads script [] script.threads refl 0 refl;
        order = λ thread ls is. own-thread script 0 thread thread script.threads ls (omega arith)
            is;
        rises = λ k d l. (all k d l).rises;
        within = λ k d l. (all k d l).within;
        own = λ k d l. (all k d l).own;
        fixed = λ k d l. (all k d l).fixed;
        starts = starts-read script 0 script.threads;
        read = λ k d l. (all k d l).read;
        answered = λ k d l. (all k d l).answered;
      }

  pub plain-read : CanBeRead script (plain script)
  plain-read = lawful-read script (plain script) plain-lawful
