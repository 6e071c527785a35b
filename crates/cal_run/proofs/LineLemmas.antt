-- A line is run as its six steps say.
use Rattle.std.proofs.Common.{◌≡◌, ℕ, ◌-◌, List, [], ◌∷◌, Bool, true, false, if◌then◌else◌, ◌&&◌}
use Rattle.std.proofs.Common.{ap, subst, sym, refl, ◌∙◌, append-nil, arith}
use Rattle.std.specs.Prelude.{Some, not}
use Rattle.cal_board.proofs.StandingLemmas.{reply_to-Stands}
use Rattle.std.proofs.lemmas.List.Elements.{All-nil}
use Rattle.cal_board.specs.Blackboard.{Blackboard, nothing_open}
use Rattle.cal_board.specs.PathBoards.{AreKnown}
use Rattle.cal_board.specs.Standing.{Stands}
use Rattle.cal_board.specs.declared.opened.Opened.{Opened}
use Rattle.cal_board.specs.declared.opened.Slot.{Slot}
use Rattle.cal_board.specs.Contexts.{NodeStands}
use Rattle.cal_context.specs.Taking.{TakesMore}
use Rattle.cal_context.specs.Tree.{Tree, Grows}
use Rattle.cal_context.specs.declared.numbers.NodeNumber.{NodeNumber}
use Rattle.cal_run.proofs.HeldLemmas.{Holds-Grows, placed-HasPlaces}
use Rattle.cal_run.specs.Adding.{MayHavePlaces}
use Rattle.cal_run.specs.Held.{Holds, HoldsThen, IsProcess}
use Rattle.cal_run.specs.History.{board_placed, process_board}
use Rattle.cal_run.specs.Lines.{attr_ref, is_process_line, operation_of, takes}
use Rattle.cal_run.specs.Snapshots.{Sight, snapshot_of}
use Rattle.cal_run.specs.Steps.{ThreadState, acted_on, as_reply, at_start, changed, found_reply}
use Rattle.cal_run.specs.Steps.{is_accepted, process_seen, reading_of, readings_changed}
use Rattle.cal_run.specs.Steps.{reply_to_line, seen_before, sight_after, taken_in}
use Rattle.cal_run.specs.Threads.{IsThread, RunsLine, ShowsThread}
use Rattle.cal_run.specs.declared.process.Process.{Process}
use Rattle.cal_run.specs.declared.thread.Thread.{Thread}
use Rattle.cal_script.specs.declared.journal.LineNote.{LineNote}
use Rattle.cal_script.specs.declared.journal.Placed.{Placed}
use Rattle.cal_script.specs.declared.script.Channel.{Channel}
use Rattle.cal_script.specs.declared.script.Line as lines
use Rattle.cal_script.specs.declared.script.Line.TheVariants as line
use Rattle.cal_script.specs.declared.script.Script.{Script}
use Rattle.cal_script.specs.Valid.{IsPlaced}
use Rattle.cal_value.specs.declared.record.Rec.{Rec}
use Rattle.cal_value.specs.declared.variant.Variant.{Variant}
use Rattle.cal_words.specs.declared.op.OpCode.TheVariants as code

-- a board of whatever stands for values replies to a line as the board that it stands for
module _ {N : Type 0} (P : N → List (Opened Variant) → Type 0) (script : Script)
    (held : Blackboard N) (b : Blackboard Variant) (is : Stands P held b) where
  pub reply_to_line-Stands : (l : lines.Line)
      → reply_to_line script held l ≡ reply_to_line script b l
  reply_to_line-Stands (line.Begin a v) =
      λ j. Some (as_reply (reply_to-Stands P held b is (attr_ref script a) code.Begin j))
  reply_to_line-Stands (line.End a) =
      λ j. Some (as_reply (reply_to-Stands P held b is (attr_ref script a) code.End j))
  reply_to_line-Stands (line.Set a v) =
      λ j. Some (as_reply (reply_to-Stands P held b is (attr_ref script a) code.Set j))
  reply_to_line-Stands (line.Flush c) = refl
  reply_to_line-Stands line.Snapshot = refl
  reply_to_line-Stands (line.Tick n) = refl

-- as a board of nodes does
pub reply_to_line-Holds : (t : Tree) (script : Script) (held : Blackboard NodeNumber)
    (b : Blackboard Variant)
    → Holds t script held b → (l : lines.Line)
    → reply_to_line script held l ≡ reply_to_line script b l
reply_to_line-Holds t script held b is =
    reply_to_line-Stands (NodeStands t) script held b is.stands

-- how many operations a line has seen before its own
pub seen-is : (script : Script) (history : List Placed) (l : lines.Line) (note : LineNote)
    (shared : Bool) (seen : ℕ)
    → shared ≡ is_process_line script l → seen ≡ (if shared then note.seen - 1 else note.seen)
    → seen ≡ seen_before script history l note
seen-is script history l note shared seen e is = is
    ∙ ap (λ p. if p then note.seen - 1 else note.seen) e

and-false : (b : Bool) → (b && false) ≡ false
and-false true = refl
and-false false = refl

module _ (t : Tree) (script : Script) (history : List Placed) (thread : Thread) (l : lines.Line)
    (note : LineNote)
    (seen : thread.process.count ≡ seen_before script history l note) (state : ThreadState)
    (previous : ℕ)
    (is : IsThread t script history thread state previous) where
  pub process-holds : Holds t script thread.process.board (process_seen script history l note)
  process-holds = subst (λ n. Holds t script thread.process.board (process_board script history n))
      seen is.process.holds

  acts : (p : Bool) → Holds t script (if p then thread.process.board else thread.board)
      (if p then process_seen script history l note else state.board)
  acts true = process-holds
  acts false = is.mine

  -- a line is accepted as its reply says
  pub accepted-is : is_accepted
      (reply_to_line script (if is_process_line script l then thread.process.board else
      thread.board) l)
      ≡ is_accepted (found_reply script history l note state)
  accepted-is = ap is_accepted
      (reply_to_line-Holds t script
      (if is_process_line script l then thread.process.board else thread.board)
      (acted_on script history l note state) (acts (is_process_line script l)) l)

  pub accepted-so : (shared accepted : Bool) → shared ≡ is_process_line script l
      → accepted ≡ is_accepted (reply_to_line script
      (if shared then thread.process.board else thread.board) l)
      → is_accepted (found_reply script history l note state) ≡ accepted
  accepted-so shared accepted e answer =
      sym (answer
      ∙ ap
      (λ p. is_accepted (reply_to_line script (if p then thread.process.board else thread.board) l))
      e ∙ accepted-is)

  -- what a snapshot sees
  pub shows-sight : ShowsThread t script thread note
      (sight_after script history l note state previous)
  shows-sight = record {
    mine = is.mine;
    process = process-holds;
    readings = is.readings;
    reading = refl;
    previous = is.previous;
  }

  module _ (channel : Channel) (had has : List Rec → Type 0) where
    -- a refused line does nothing
    pub refused-runs : is_accepted (found_reply script history l note state) ≡ false
        → ((rs : List Rec) → had rs → has rs)
        → RunsLine t script history thread channel l note had has state previous
    refused-runs refused stays = record {
      taken = subst (λ a. TakesMore had has (if a && takes script channel l
          then snapshot_of script (sight_after script history l note state previous) channel
          (operation_of l) ∷ [] else [])) (sym refused)
          (λ rs h. subst has (sym (append-nil rs)) (stays rs h));
      kept = subst (λ a. IsThread t script history thread
          (if a && not (is_process_line script l) then changed script history l note state else
          state)
          (if channel.timer && (a && takes script channel l) then reading_of note else previous))
          (sym refused)
          (subst (λ n. IsThread t script history thread state
          (if n then reading_of note else previous)) (sym (and-false channel.timer)) is);
    }

-- what had been taken before may have been taken earlier
pub runs-earlier : (t : Tree) (script : Script) (history : List Placed) (thread : Thread)
    (channel : Channel) (l : lines.Line) (note : LineNote) (earlier had has : List Rec → Type 0)
    (state : ThreadState) (previous : ℕ) → ((rs : List Rec) → earlier rs → had rs)
    → RunsLine t script history thread channel l note had has state previous
    → RunsLine t script history thread channel l note earlier has state previous
runs-earlier t script history thread channel l note earlier had has state previous stays runs =
    record { taken = λ rs h. runs.taken rs (stays rs h); kept = runs.kept }

-- what a thread is after what it took
pub taken-thread : (t : Tree) (script : Script) (history : List Placed) (old new : Thread)
    (state : ThreadState) (previous next : ℕ)
    → IsThread t script history old state previous → new.board ≡ old.board
    → new.readings ≡ old.readings → new.timed ≡ old.timed
    → new.process ≡ old.process → new.previous ≡ next → IsThread t script history new state next
taken-thread t script history old new state previous next is board readings timed process
    after = record {
      mine = subst (λ b. Holds t script b state.board) (sym board) is.mine;
      process = subst (IsProcess t script history) (sym process) is.process;
      readings = λ so. readings ∙ is.readings (sym timed ∙ so);
      previous = after;
    }

module _ (t : Tree) (script : Script) (history : List Placed) (l : lines.Line) (note : LineNote)
    (state : ThreadState)
    (previous : ℕ) (channel : Channel) (had has : List Rec → Type 0)
    (yes : is_accepted (found_reply script history l note state) ≡ true)
    (taken : TakesMore had has (if takes script channel l
    then snapshot_of script (sight_after script history l note state previous) channel
    (operation_of l) ∷ [] else [])) where
  accepted-taken : TakesMore had has (taken_in script history l note state channel previous)
  accepted-taken = subst (λ a. TakesMore had has (if a && takes script channel l
      then snapshot_of script (sight_after script history l note state previous) channel
      (operation_of l) ∷ [] else [])) (sym yes) taken

  -- an accepted line of the process leaves the thread's own board
  pub shared-runs : (new : Thread) → is_process_line script l ≡ true
      → IsThread t script history new state
      (if channel.timer && takes script channel l then reading_of note else previous)
      → RunsLine t script history new channel l note had has state previous
  shared-runs new shared is = record {
    taken = accepted-taken;
    kept = subst (λ a. IsThread t script history new
        (if a && not (is_process_line script l) then changed script history l note state else state)
        (if channel.timer && (a && takes script channel l) then reading_of note else previous))
        (sym yes)
        (subst (λ p. IsThread t script history new
        (if not p then changed script history l note state else state)
        (if channel.timer && takes script channel l then reading_of note else previous))
        (sym shared) is);
  }

  -- and one of its own changes it
  pub own-runs : (new : Thread) → is_process_line script l ≡ false
      → IsThread t script history new (changed script history l note state)
      (if channel.timer && takes script channel l then reading_of note else previous)
      → RunsLine t script history new channel l note had has state previous
  own-runs new shared is = record {
    taken = accepted-taken;
    kept = subst (λ a. IsThread t script history new
        (if a && not (is_process_line script l) then changed script history l note state else state)
        (if channel.timer && (a && takes script channel l) then reading_of note else previous))
        (sym yes)
        (subst (λ p. IsThread t script history new
        (if not p then changed script history l note state else state)
        (if channel.timer && takes script channel l then reading_of note else previous))
        (sym shared) is);
  }

-- a thread while the context grows, with the process's board as it has now seen it
pub seen-thread : {old new : Tree} → Grows old new
    → (script : Script) (history : List Placed) (thread : Thread) (process : Process)
    (state : ThreadState) (previous : ℕ) → IsThread old script history thread state previous
    → IsProcess new script history process
    → IsThread new script history
    (record {
      board = thread.board;
      readings = thread.readings;
      process = process;
      previous = thread.previous;
      timed = thread.timed;
    }) state previous
seen-thread grows script history thread process state previous is sees = record {
  mine = Holds-Grows grows script thread.board state.board is.mine;
  process = sees;
  readings = is.readings;
  previous = is.previous;
}

-- and after the change of a line of its own
pub changed-thread : {old new : Tree} → Grows old new
    → (script : Script) (history : List Placed) (was now : Thread)
    (l : lines.Line) (note : LineNote) (state : ThreadState) (previous : ℕ)
    → IsThread old script history was state previous
    → HoldsThen old new script was.board now.board (λ b. board_placed script b (operation_of l))
    → (was.timed ≡ true → now.readings ≡ readings_changed script was.readings note (operation_of l))
    → now.timed ≡ was.timed
    → now.process ≡ was.process
    → now.previous ≡ was.previous
    → IsThread new script history now (changed script history l note state) previous
changed-thread {old} {new} grows script history was now l note state previous is board readings
    timed process before = record {
      mine = board state.board is.mine;
      process = subst (IsProcess new script history) (sym process) (record {
        holds = Holds-Grows grows script was.process.board
            (process_board script history was.process.count) is.process.holds;
        within = is.process.within;
      });
      readings = λ so. readings (sym timed ∙ so)
          ∙ ap (λ rs. readings_changed script rs note (operation_of l))
          (is.readings (sym timed ∙ so));
      previous = before ∙ is.previous;
    }

-- the places of a line are those of its operation
pub line-places : (script : Script) (l : lines.Line)
    → IsPlaced script.attributes script.channels script.values l
    → MayHavePlaces script (operation_of l)
line-places script (line.Begin a v) is = placed-HasPlaces script (line.Begin a v) _ is refl
line-places script (line.End a) is = placed-HasPlaces script (line.End a) _ is refl
line-places script (line.Set a v) is = placed-HasPlaces script (line.Set a v) _ is refl
line-places script line.Snapshot is = tt
line-places script (line.Flush c) is = tt
line-places script (line.Tick n) is = tt

-- ---- a whole line

module _ {was is : Tree} (grows : Grows was is) (script : Script) (history : List Placed)
    (thread : Thread) (process : Process)
    (channel : Channel) (l : lines.Line) (note : LineNote) (shared accepted : Bool)
    (kind : shared ≡ is_process_line script l)
    (sees : IsProcess is script history process)
    (seen : process.count ≡ seen_before script history l note)
    (answer : accepted ≡ is_accepted
    (reply_to_line script (if shared then process.board else thread.board) l))
    (state : ThreadState) (previous : ℕ)
    (kept : IsThread was script history thread state previous) where
  -- the thread with the process's board as the line has seen it
  abbrev met : Thread
  met = record {
    board = thread.board;
    readings = thread.readings;
    process = process;
    previous = thread.previous;
    timed = thread.timed;
  }

  met-is : IsThread is script history met state previous
  met-is = seen-thread grows script history thread process state previous kept sees

  found : is_accepted (found_reply script history l note state) ≡ accepted
  found = accepted-so is script history met l note seen state previous met-is shared accepted kind
      answer

  pub line-refused : (had has : List Rec → Type 0) → accepted ≡ false
      → ((rs : List Rec) → had rs → has rs)
      → RunsLine is script history met channel l note had has state previous
  line-refused had has refused stays =
      refused-runs is script history met l note seen state previous met-is channel had has (found
      ∙ refused) stays

  module _ (now : Thread) (accepts : accepted ≡ true) (board : now.board ≡ thread.board)
      (readings : now.readings ≡ thread.readings) (timed : now.timed ≡ thread.timed)
      (same : now.process ≡ process)
      (before : now.previous ≡ (if channel.timer && takes script channel l then reading_of note else
      thread.previous))
      (had has : List Rec → Type 0)
      (taken : (s : Sight) → ShowsThread is script met note s
      → TakesMore had has (if takes script channel l then snapshot_of script s channel
      (operation_of l) ∷ [] else [])) where
    abbrev next : ℕ
    next = if channel.timer && takes script channel l then reading_of note else previous

    now-is : IsThread is script history now state next
    now-is = taken-thread is script history met now state previous next met-is board readings timed same
        (before ∙ ap (λ p. if channel.timer && takes script channel l then reading_of note else p)
        kept.previous)

    handed : TakesMore had has (if takes script channel l
        then snapshot_of script (sight_after script history l note state previous) channel
        (operation_of l) ∷ [] else [])
    handed = taken (sight_after script history l note state previous)
        (shows-sight is script history met l note seen state previous met-is)

    pub line-shared : (earlier : List Rec → Type 0) → ((rs : List Rec) → earlier rs → had rs)
        → shared ≡ true
        → RunsLine is script history now channel l note earlier has state previous
    line-shared earlier stays so =
        shared-runs is script history l note state previous channel earlier has (found ∙ accepts)
        (λ rs h. handed rs (stays rs h)) now (sym kind ∙ so) now-is

    pub line-own : {after : Tree} → Grows is after
        → (changed : Thread) (earlier later : List Rec → Type 0)
        → ((rs : List Rec) → earlier rs → had rs) → ((rs : List Rec) → has rs → later rs)
        → shared ≡ false
        → HoldsThen is after script now.board changed.board
        (λ b. board_placed script b (operation_of l))
        → (now.timed ≡ true
        → changed.readings ≡ readings_changed script now.readings note (operation_of l))
        → changed.timed ≡ now.timed
        → changed.process ≡ now.process
        → changed.previous ≡ now.previous
        → RunsLine after script history changed channel l note earlier later state previous
    line-own {after} more changed earlier later stays onward own holds reads times sees_so was_before =
        own-runs after script history l note state previous channel earlier later (found ∙ accepts)
        (λ rs h. onward _ (handed rs (stays rs h))) changed (sym kind ∙ own)
        (changed-thread more script history now changed l note state next now-is holds reads times sees_so
        was_before)

-- ---- before the first line

pub nothing-holds : (t : Tree) (script : Script) → Holds t script nothing_open nothing_open
nothing-holds t script = record {
  stands = record { references = tt; as_values = refl };
  known = record {
    references = All-nil (λ (s : Slot Variant). AreKnown script.attributes s.opened);
    as_values = All-nil (λ (s : Slot Variant). AreKnown script.attributes s.opened);
  };
}

pub start-thread : (t : Tree) (script : Script) (history : List Placed) (thread : Thread)
    (start : ℕ) → thread.board ≡ nothing_open
    → thread.readings ≡ [] → thread.process.board ≡ nothing_open → thread.process.count ≡ 0
    → thread.previous ≡ start
    → IsThread t script history thread at_start start
start-thread t script history thread start board readings shared count previous = record {
  mine = subst (λ b. Holds t script b nothing_open) (sym board) (nothing-holds t script);
  process = record {
    holds = subst (λ n. Holds t script thread.process.board (process_board script history n))
        (sym count)
        (subst (λ b. Holds t script b nothing_open) (sym shared) (nothing-holds t script));
    within = omega (arith, count);
  };
  readings = λ _. readings;
  previous = previous;
}
