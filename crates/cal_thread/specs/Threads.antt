-- What a thread keeps between two lines, by the operations that it has seen and by its state.
use Rattle.std.specs.Prelude.{◌≡◌, ℕ, ◌+◌, ◌<◌, List, true}
use Rattle.cal_once.specs.Layout.{times}
use Rattle.cal_once.specs.Seats.{view}
use Rattle.cal_plog.specs.History.{HasOp, KnowsBelow, OwnBefore}
use Rattle.cal_plog.specs.Seats.{slots_of}
use Rattle.cal_process.specs.Boards.{Held}
use Rattle.cal_process.specs.Operations.{history_of}
use Rattle.cal_process.specs.Replicas.{HasTaken}
use Rattle.cal_process.specs.Rooms.{UsesAtMost}
use Rattle.cal_process.specs.declared.common.Common.{Common}
use Rattle.cal_run.specs.History.{process_board}
use Rattle.cal_run.specs.Snapshots.{Sight}
use Rattle.cal_run.specs.Steps.{ThreadState}
use Rattle.cal_script.specs.declared.script.Script.{Script}
use Rattle.cal_thread.specs.declared.thread.Thread.{Thread}
use Rattle.cal_words.specs.declared.op.OpRec.{OpRec}

module _ (common : Common) where
  -- A thread has seen these operations, with which the history begins, and has this state.
  pub record HasState (t : Thread) (h : List OpRec) (state : ThreadState) : Type 0 where
    pub taken : HasTaken common t.tree t.process h
    pub number : (view t.process.log).number ≡ t.number + 1
    pub at_nodes : (view t.tree).number ≡ t.number + 1
    pub mine : Held common t.tree t.board state.board
    pub readings : t.timed ≡ true → t.readings ≡ state.readings
    pub clock : t.clock ≡ state.clock

  -- some operations and some state
  abbrev pub HasSomeState : Thread → Type 0
  HasSomeState t = (h : List OpRec) × (state : ThreadState) × HasState t h state

  -- Between two lines, behind so many of them: the thread's own operations are of these lines, and
  -- it has seen them all; of the tree's words its seat uses no more than they make.
  pub record IsThread (t : Thread) (done : ℕ) (h : List OpRec) (state : ThreadState)
      : Type 0 where
    pub has : HasState t h state
    pub own : OwnBefore (slots_of common.log) (view t.process.log) (done + 1)
    pub below : (place : ℕ) → 0 < times place (view t.process.log).published
        → place < t.process.seen
    pub uses : UsesAtMost common (view t.tree) h t.number done

  abbrev pub IsSomeThread : Thread → Type 0
  IsSomeThread t = (done : ℕ) × (h : List OpRec) × (state : ThreadState) × IsThread t done h state

  -- Within a process line: its operation stands next in the history, and isn't taken in yet.
  pub record HasPlaced (t : Thread) (op : OpRec) (h : List OpRec) (state : ThreadState)
      : Type 0 where
    pub has : HasState t h state
    pub there : HasOp (slots_of common.log) (view t.process.log) t.process.seen op
    pub up_to : KnowsBelow (slots_of common.log) (view t.process.log) (t.process.seen + 1)
    pub own : OwnBefore (slots_of common.log) (view t.process.log) (op.line + 1)
    pub below : (place : ℕ) → 0 < times place (view t.process.log).published
        → place < t.process.seen + 1
    pub uses : UsesAtMost common (view t.tree) h t.number op.line

-- what a snapshot sees behind so many operations
abbrev pub sight_of : Script → List OpRec → (seen : ℕ) → ThreadState → (reading previous : ℕ)
    → Sight
sight_of script h seen state reading previous = record {
  mine = state.board;
  process = process_board script (history_of h) seen;
  readings = state.readings;
  reading = reading;
  previous = previous;
}
