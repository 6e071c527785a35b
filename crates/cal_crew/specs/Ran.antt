-- What a run leaves of its running threads, and of the clocks that they asked.
use Rattle.std.specs.Prelude.{◌≡◌, ℕ, Bool, List, [], length, drop, Option, Some, slice_get}
use Rattle.cal_keeping.specs.Hands.{AccountOf}
use Rattle.cal_keeping.specs.Runners.{RanAll, SameServices}
use Rattle.cal_keeping.specs.declared.runner.Runner.{Runner}
use Rattle.cal_replay.specs.Readings.{Asked, AskedFor, off_clock, readings_of}
use Rattle.cal_replay.specs.declared.shared.Shared.{Shared}
use Rattle.cal_script.specs.declared.journal.ThreadNote.{ThreadNote}
use Rattle.cal_table.specs.declared.shape.TableShape.{TableShape}

-- A clock was asked for a thread's start reading and then for those of its lines, as noted.
pub record HasToldAll {K : Type 0} (given : K → Option (List ℕ)) (real : Bool) (was is : K)
    (note : ThreadNote) : Type 0 where
  pub started : K
  pub start : Asked given was started (off_clock real note.start)
  pub lines : AskedFor given real started is (readings_of note.lines)

module _ {K P H : Type 0} (account : H → ℕ → AccountOf)
    (takes : H → ℕ → List TableShape → Type 0) (stays : H → H → Type 0) (shared : Shared)
    (given : K → Option (List ℕ)) where
  -- A running thread has run all its lines from the start, and its clock was asked for its readings
  -- alone. Its number and what its channels share are as before.
  pub record HasRun (old new : Runner P H) (was is : K) : Type 0 where
    pub number : new.worker.thread.number ≡ old.worker.thread.number
    pub services : SameServices stays old.channels new.channels
    pub ran : RanAll account takes shared new []
    pub told : HasToldAll given shared.real was is new.worker.note

  -- So has each, with the clock at its place, in their order; and further clocks are as before.
  pub record HaveRun (old new : List (Runner P H)) (was is : List K) : Type 0 where
    pub many : length new ≡ length old
    pub clocks : length is ≡ length was
    pub each : (place : ℕ) (had has : Runner P H) (before behind : K)
        → slice_get old place ≡ Some had → slice_get new place ≡ Some has
        → slice_get was place ≡ Some before → slice_get is place ≡ Some behind
        → HasRun had has before behind
    pub others : drop (length old) is ≡ drop (length old) was
