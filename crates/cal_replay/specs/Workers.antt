-- What a worker keeps between two lines: its thread, as the plain meaning of a run has it, and
-- notes that keep the rules of journals.
use Rattle.std.specs.Prelude.{◌≡◌, ℕ, List, [], None, length, take, slice_index_or}
use Rattle.cal_notes.specs.Running.{HasNoted, started, state_behind}
use Rattle.cal_process.specs.Operations.{history_of}
use Rattle.cal_process.specs.Replicas.{IsCommon}
use Rattle.cal_replay.specs.declared.shared.Shared.{Shared}
use Rattle.cal_replay.specs.declared.worker.Worker.{Worker}
use Rattle.cal_run.specs.Steps.{ThreadState, at_start}
use Rattle.cal_run.specs.Timers.{AreTimers}
use Rattle.cal_script.specs.declared.script.Line.{Line}
use Rattle.cal_script.specs.declared.script.Script.{Script}
use Rattle.cal_thread.specs.Threads.{IsThread}
use Rattle.cal_words.specs.declared.op.OpRec.{OpRec}

-- What the workers share is a run's: its history is that of the script, and which lines take a
-- reading is known.
pub record IsShared (shared : Shared) : Type 0 where
  pub common : IsCommon shared.common
  pub timers : AreTimers shared.common.script.now shared.timers

-- the script that the workers run
abbrev pub script_of : Shared → Script
script_of shared = shared.common.script.now

-- the lines of a thread
abbrev pub lines_of : Script → (thread : ℕ) → List Line
lines_of script thread = slice_index_or script.threads thread []

-- those that a worker has done, which are as many as it has notes of
abbrev pub lines_done : Script → Worker → List Line
lines_done script w = take (length w.note.lines) (lines_of script w.thread.number)

-- the state of its thread behind them, by these operations of the history
abbrev pub state_of : Script → List OpRec → Worker → ThreadState
state_of script h w = state_behind script (history_of h) (lines_done script w) w.note

module _ (shared : Shared) where
  -- A worker that wasn't started: its thread is before its first line, and nothing is noted.
  pub record IsHired (w : Worker) : Type 0 where
    pub thread : IsThread shared.common w.thread 0 [] at_start
    pub timed : w.thread.timed ≡ shared.timers.some
    pub noted : w.note ≡ started None

  -- A worker between two lines: its thread has seen exactly these operations, with which the
  -- history begins, and has the state that the plain meaning of a run gives it by them; and its
  -- notes of the lines done keep the rules of journals by them.
  pub record IsWorker (w : Worker) (h : List OpRec) : Type 0 where
    pub thread : IsThread shared.common w.thread (length w.note.lines) h
        (state_of (script_of shared) h w)
    pub timed : w.thread.timed ≡ shared.timers.some
    pub noted : HasNoted (script_of shared) shared.real (history_of h) w.thread.number
        (lines_done (script_of shared) w) w.note

  -- for some operations
  abbrev pub IsSomeWorker : Worker → Type 0
  IsSomeWorker w = (h : List OpRec) × IsWorker w h
