-- What a line does to a thread, part by part.
use Rattle.std.specs.Prelude.{◌≡◌, ◌⊎◌, ℕ, ◌+◌, List, [], ◌∷◌, ◌++◌, Bool, true, false, Option}
use Rattle.cal_board.specs.Readings.{readings_after}
use Rattle.cal_once.specs.Seats.{view}
use Rattle.cal_plog.specs.Seats.{slots_of}
use Rattle.cal_process.specs.Operations.{history_of, operation_in, words_made}
pub use Rattle.cal_process.specs.Operations.{words_if, words_of_line}
use Rattle.cal_process.specs.Replicas.{AddsWords}
use Rattle.cal_process.specs.Takings.{KeepsLooks, OnlyLearns, words_of_ops}
use Rattle.cal_process.specs.declared.common.Common.{Common}
use Rattle.cal_process.specs.declared.replica.Replica.{Replica}
use Rattle.cal_run.specs.History.{board_with}
use Rattle.cal_run.specs.Lines.{attr_ref}
use Rattle.cal_run.specs.Steps.{ThreadState, found_reply, is_accepted, looks}
use Rattle.cal_run.specs.declared.operation.Operation.{Operation}
use Rattle.cal_script.specs.declared.journal.LineNote.{LineNote}
use Rattle.cal_script.specs.declared.journal.Placed.{Placed}
use Rattle.cal_script.specs.declared.journal.Reply.{Reply}
use Rattle.cal_script.specs.declared.script.Line.{Line}
use Rattle.cal_script.specs.declared.script.Script.{Script}
use Rattle.cal_thread.specs.Threads.{HasPlaced, HasState, IsThread}
use Rattle.cal_thread.specs.declared.looking.Met.{Met}
use Rattle.cal_thread.specs.declared.thread.Thread.{Thread}
use Rattle.cal_words.specs.declared.op.OpRec.{OpRec}

-- ---- a line that is its thread's own

-- What it sees: where it looks, what the thread has seen ends at a slot that was found empty, or at
-- the end of the slots; else it sees nothing more.
abbrev pub Looks : Common → (old new : Replica) → List OpRec → Bool → Type 0
Looks common old new ops true = (((view new.log).looks ≡ (view old.log).looks ++ new.seen ∷ [])
    ⊎ (new.seen ≡ slots_of common.log)) × OnlyLearns (view old.log) (view new.log)
Looks common old new ops false = (ops ≡ []) × (view new.log ≡ view old.log)

module _ (common : Common) (old new : Thread) where
  -- A thread that looks, if it does, has seen these operations more.
  pub record LooksIf (done : ℕ) (h : List OpRec) (state : ThreadState) (look : Bool) : Type 0 where
    pub ops : List OpRec
    pub kept : IsThread common new done (h ++ ops) state
    pub sees : Looks common old.process new.process ops look
    pub words : AddsWords common old.tree new.tree (words_of_ops common.script.now ops)

  -- The line is answered, by whatever its note will be, and looks as it should.
  pub record MeetsOwn (l : Line) (met : Met) (done : ℕ) (h : List OpRec) (state : ThreadState)
      : Type 0 where
    pub ops : List OpRec
    pub kept : IsThread common new done (h ++ ops) state
    pub found : (note : LineNote)
        → found_reply common.script.now (history_of (h ++ ops)) l note state ≡ met.reply
    pub accepted : met.accepted ≡ is_accepted met.reply
    pub sees : (note : LineNote) → Looks common old.process new.process ops
        (looks common.script.now (history_of (h ++ ops)) l note state)
    pub words : AddsWords common old.tree new.tree (words_of_ops common.script.now ops)

  -- what the thread had before, changed so, it has now
  abbrev pub HasStateThen : (List OpRec → ThreadState → ThreadState) → Type 0
  HasStateThen change = (h : List OpRec) (state : ThreadState) → HasState common old h state
      → HasState common new h (change h state)

-- the state behind an operation that the thread's board accepts, with this reading
abbrev pub operated : Script → Operation → (reading : ℕ) → ThreadState → ThreadState
operated script op reading state = record {
  board = board_with script state.board op;
  readings = readings_after state.readings op.code (attr_ref script op.attr) reading;
  clock = state.clock;
}

-- ---- a process line

module _ (common : Common) (old new : Thread) where
  -- The line was placed behind these operations more, and is answered by the process's board behind
  -- them: whatever stands behind its place, that is its reply.
  pub record MeetsShared (l : Line) (op : OpRec) (reply : Option Reply) (h : List OpRec)
      (state : ThreadState) : Type 0 where
    pub ops : List OpRec
    pub placed : HasPlaced common new op (h ++ ops) state
    pub found : (more : List Placed) (note : LineNote) → note.seen ≡ new.process.seen + 1
        → found_reply common.script.now (history_of (h ++ ops) ++ more) l note state ≡ reply
    pub published : (view new.process.log).published
        ≡ (view old.process.log).published ++ new.process.seen ∷ []
    pub looks : KeepsLooks old.process new.process
    pub used : (view new.process.log).used ≡ (view old.process.log).used + 7
    pub words : AddsWords common old.tree new.tree (words_of_ops common.script.now ops)

  -- Its operation was taken in, and the thread stands behind the line.
  pub record TakesOwn (op : OpRec) (h : List OpRec) (state : ThreadState) : Type 0 where
    pub kept : IsThread common new op.line (h ++ op ∷ []) state
    pub seen : new.process.seen ≡ old.process.seen + 1
    pub learns : OnlyLearns (view old.process.log) (view new.process.log)
    pub looks : KeepsLooks old.process new.process
    pub words : AddsWords common old.tree new.tree
        (words_made common.script.now (operation_in op))
