-- All threads of a run at its end: what each has kept and noted, and whose turns were met.
use Rattle.std.specs.Prelude.{◌≡◌, ℕ, ◌<◌, List, All, Some, length, map, slice_get}
use Rattle.cal_book.specs.Closing.{AllMetHadTurns}
use Rattle.cal_keeping.specs.Hands.{AccountOf}
use Rattle.cal_keeping.specs.Runners.{IsRunner}
use Rattle.cal_keeping.specs.declared.runner.Runner.{Runner}
use Rattle.cal_notes.specs.Together.{Begins}
use Rattle.cal_process.specs.Operations.{history_of}
use Rattle.cal_replay.specs.Workers.{lines_done, lines_of, script_of}
use Rattle.cal_replay.specs.declared.shared.Shared.{Shared}
use Rattle.cal_run.specs.Lawful.{IsKnown}
use Rattle.cal_script.specs.declared.journal.Journal.{Journal}
use Rattle.cal_script.specs.declared.journal.Placed.{Placed}
use Rattle.cal_script.specs.declared.journal.ThreadNote.{ThreadNote}
use Rattle.cal_table.specs.declared.shape.TableShape.{TableShape}
use Rattle.cal_thread.specs.declared.thread.Thread.{Thread}
use Rattle.cal_words.specs.declared.op.OpRec.{OpRec}

-- what threads have done for the channel at a place
abbrev pub accounts_at : {P H : Type 0} → (account : H → ℕ → AccountOf) → ℕ → List (Runner P H)
    → List AccountOf
accounts_at account place runners =
    map (λ r. account r.channels.hand place) runners

-- the threads of runners, and their notes
abbrev pub threads_of : {P H : Type 0} → List (Runner P H) → List Thread
threads_of runners = map (λ r. r.worker.thread) runners

abbrev pub notes_of : {P H : Type 0} → List (Runner P H) → List ThreadNote
notes_of runners = map (λ r. r.worker.note) runners

module _ {P H : Type 0} (account : H → ℕ → AccountOf)
    (takes : H → ℕ → List TableShape → Type 0) (shared : Shared) where
  -- A thread has done all its lines, and has seen these operations.
  pub record HasRun (thread : ℕ) (r : Runner P H) : Type 0 where
    pub h : List OpRec
    pub is : IsRunner account takes shared r h
    pub number : r.worker.thread.number ≡ thread
    pub all : lines_done (script_of shared) r.worker ≡ lines_of (script_of shared) thread

  -- So have all threads of the run; and whoever held the turn where a flush was busy had one.
  pub record HaveAllRun (runners : List (Runner P H)) : Type 0 where
    pub many : length runners ≡ length (script_of shared).threads
    pub ran : (thread : ℕ) (r : Runner P H) → slice_get runners thread ≡ Some r → HasRun thread r
    pub met : (place : ℕ) → place < length (script_of shared).channels
        → AllMetHadTurns (accounts_at account place runners)

  -- What a thread that has run has seen begins the whole history, which has no operation of it
  -- behind that.
  pub record HasEnded (history : List Placed) (thread : ℕ) (r : Runner P H) : Type 0 where
    pub run : HasRun thread r
    pub begins : Begins thread (history_of run.h) history

  -- So it is with all threads of the run, and the history is of process lines of the script.
  pub record HaveAllEnded (runners : List (Runner P H)) (history : List Placed) : Type 0 where
    pub run : HaveAllRun runners
    pub known : All (IsKnown (script_of shared)) history
    pub ended : (thread : ℕ) (r : Runner P H) → slice_get runners thread ≡ Some r
        → HasEnded history thread r

-- the journal of a run: which clock was read, the whole history, and the notes of all threads
abbrev pub journal_of : {P H : Type 0} → Shared → List (Runner P H) → List Placed → Journal
journal_of shared runners history = record {
  real = shared.real;
  ops = history;
  threads = notes_of runners;
}
