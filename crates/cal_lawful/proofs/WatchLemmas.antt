-- What lines find, and how a thread is kept while its lines are gone through.
use Rattle.std.proofs.Common.{◌≡◌, ℕ, ◌-◌, Bool, true, false, if◌then◌else◌, ◌&&◌}
use Rattle.std.proofs.Common.{List, ap, subst, sym, ◌∙◌, arith}
use Rattle.std.specs.Prelude.{Option, not}
use Rattle.cal_board.specs.Blackboard.{Blackboard, nothing_open}
use Rattle.cal_context.specs.Tree.{Tree, Grows}
use Rattle.cal_context.specs.declared.numbers.NodeNumber.{NodeNumber}
use Rattle.cal_run.proofs.HeldLemmas.{Holds-Grows}
use Rattle.cal_run.proofs.LineLemmas.{nothing-holds, reply_to_line-Holds}
use Rattle.cal_lawful.specs.Checking.{IsWatched, found_of, found_on, found_with}
use Rattle.cal_run.specs.Held.{Holds, HoldsThen, IsProcess}
use Rattle.cal_run.specs.History.{board_placed, process_board}
use Rattle.cal_run.specs.Lines.{clock_after, is_process_line, operation_of}
use Rattle.cal_run.specs.Steps.{ThreadState, at_start, changed, found_reply, is_accepted}
use Rattle.cal_run.specs.Steps.{process_seen, reply_to_line, seen_before, state_after}
use Rattle.cal_lawful.specs.declared.found.Found.{Found}
use Rattle.cal_run.specs.declared.process.Process.{Process}
use Rattle.cal_lawful.specs.declared.watch.Watch.{Watch}
use Rattle.cal_script.specs.declared.journal.LineNote.{LineNote}
use Rattle.cal_script.specs.declared.journal.Placed.{Placed}
use Rattle.cal_script.specs.declared.journal.Reply as replies
use Rattle.cal_script.specs.declared.script.Line.{Line}
use Rattle.cal_script.specs.declared.script.Script.{Script}

-- a thread before its first line
pub start-watch : (t : Tree) (script : Script) (history : List Placed) (watch : Watch)
    → watch.board ≡ nothing_open → watch.process.board ≡ nothing_open → watch.process.count ≡ 0
    → watch.clock ≡ 0 → IsWatched t script history watch at_start
start-watch t script history watch board shared count clock = record {
  mine = subst (λ b. Holds t script b nothing_open) (sym board) (nothing-holds t script);
  process = record {
    holds = subst (λ n. Holds t script watch.process.board (process_board script history n))
        (sym count) (subst (λ b. Holds t script b nothing_open) (sym shared)
        (nothing-holds t script));
    within = omega (arith, count);
  };
  clock = clock;
}

module _ (t : Tree) (script : Script) (history : List Placed) (l : Line) (note : LineNote)
    (state : ThreadState) (board : Blackboard NodeNumber) (process : Process) (clock : ℕ)
    (mine : Holds t script board state.board) (shared : IsProcess t script history process)
    (seen : process.count ≡ seen_before script history l note) (same : clock ≡ state.clock) where
  seen-holds : Holds t script process.board (process_seen script history l note)
  seen-holds = subst (λ n. Holds t script process.board (process_board script history n)) seen
      shared.holds

  acts-on : (p : Bool) → Holds t script (if p then process.board else board)
      (if p then process_seen script history l note else state.board)
  acts-on true = seen-holds
  acts-on false = mine

  reply-found : (p : Bool) → p ≡ is_process_line script l
      → reply_to_line script (if p then process.board else board) l
      ≡ found_reply script history l note state
  reply-found p is =
      reply_to_line-Holds t script (if p then process.board else board)
      (if p then process_seen script history l note else state.board) (acts-on p) l
      ∙ ap (λ (q : Bool). reply_to_line script
      (if q then process_seen script history l note else state.board) l) is

  -- what a line finds by the nodes is what it finds
  pub found-is : (p : Bool) → p ≡ is_process_line script l
      → found_on script (if p then process.board else board) l clock
      ≡ found_of script history l note state
  found-is p is =
      ap (λ (r : Option replies.Reply). found_with script r l clock) (reply-found p is)
      ∙ ap (found_with script (found_reply script history l note state) l) same

-- a line that has seen its part of the history, and what it found by the nodes
module _ {t0 t1 : Tree} (grows : Grows t0 t1) (script : Script) (history : List Placed) (l : Line)
    (note : LineNote) (state : ThreadState) (watch : Watch)
    (is : IsWatched t0 script history watch state) (process : Process)
    (shared : IsProcess t1 script history process) (p : Bool) (p-is : p ≡ is_process_line script l)
    (seen : process.count ≡ (if p then note.seen - 1 else note.seen)) (found : Found)
    (by_nodes : found ≡ found_on script (if p then process.board else watch.board) l watch.clock)
  where
    still : Holds t1 script watch.board state.board
    still = Holds-Grows grows script watch.board state.board is.mine

    seen-is : process.count ≡ seen_before script history l note
    seen-is = seen ∙ ap (λ (q : Bool). if q then note.seen - 1 else note.seen) p-is

    pub found-of : found ≡ found_of script history l note state
    found-of = by_nodes
        ∙ found-is t1 script history l note state watch.board process watch.clock still shared
        seen-is is.clock p p-is

    accepts : (is_accepted found.reply && not p)
        ≡ (is_accepted (found_reply script history l note state) && not (is_process_line script l))
    accepts =
        ap (λ (f : Found). is_accepted f.reply && not p) found-of
        ∙ ap (λ (q : Bool). is_accepted (found_reply script history l note state) && not q) p-is

    -- the thread by whether the line changes it
    kept-by : {t : Tree} (b : Bool) → (is_accepted found.reply && not p) ≡ b → (new : Watch)
        → IsWatched t script history new (if b then changed script history l note state else state)
        → IsWatched t script history new (state_after script history l note state)
    kept-by {t} b so new kept =
        subst (λ (b : Bool). IsWatched t script history new
        (if b then changed script history l note state else state)) (sym so ∙ accepts) kept

    -- a line that isn't accepted, or is the process's, leaves the thread
    pub refused-watch : (is_accepted found.reply && not p) ≡ false → (new : Watch)
        → new.board ≡ watch.board → new.process ≡ process → new.clock ≡ watch.clock
        → IsWatched t1 script history new (state_after script history l note state)
    refused-watch refused new board seen-board clock = kept-by false refused new (record {
      mine = subst (λ b. Holds t1 script b state.board) (sym board) still;
      process = subst (IsProcess t1 script history) (sym seen-board) shared;
      clock = clock ∙ is.clock;
    })

    -- and another changes it
    pub accepted-watch : (is_accepted found.reply && not p) ≡ true → {t2 : Tree} → Grows t1 t2
        → (new : Watch)
        → HoldsThen t1 t2 script watch.board new.board (λ b. board_placed script b (operation_of l))
        → new.process ≡ process → new.clock ≡ clock_after watch.clock l
        → IsWatched t2 script history new (state_after script history l note state)
    accepted-watch accepted {t2} more new becomes seen-board clock =
        kept-by true accepted new (record {
          mine = becomes state.board still;
          process = subst (IsProcess t2 script history) (sym seen-board) (record {
            holds = Holds-Grows more script process.board
                (process_board script history process.count) shared.holds;
            within = shared.within;
          });
          clock = clock ∙ ap (λ n. clock_after n l) is.clock;
        })
