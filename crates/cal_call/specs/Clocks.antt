-- What a call asks the clocks that it is lent.
use Rattle.std.specs.Prelude.{◌≡◌, ℕ, List, Option, None, Some, Result, Ok}
use Rattle.cal_ran.specs.Told.{HaveToldAll}
use Rattle.cal_script.specs.declared.journal.Journal.{Journal}
use Rattle.cal_call.specs.Tasks.{Task, ThreadsTask, Refusal}
use Rattle.cal_call.specs.declared.fault.Fault as faults
use Rattle.cal_call.specs.declared.fault.Fault.TheVariants as fault

module _ {K : Type 0} (given : K → Option (List ℕ)) where
  -- What became of the clocks by how a run in threads ended. Where it came to write, each thread's
  -- clock was asked for just the readings that its journal has of the thread, and with the script's
  -- clock none was. Any fault before the run leaves them as they were; and where memory ran out,
  -- nothing is said.
  abbrev pub AskedBy : Journal → Option faults.Fault → (was is : List K) → Type 0
  AskedBy journal None was is = HaveToldAll given journal was is
  AskedBy journal (Some (fault.LinesRefused lines)) was is = HaveToldAll given journal was is
  AskedBy journal (Some fault.WriteFault) was is = HaveToldAll given journal was is
  AskedBy journal (Some fault.OutOfMemory) was is = Unit {0}
  AskedBy journal (Some _) was is = is ≡ was

  -- what became of them by what the words ask for: only a run in threads asks clocks
  abbrev pub AskedClocks : Result Task Refusal → Journal → Option faults.Fault → (was is : List K)
      → Type 0
  AskedClocks (Ok (ThreadsTask shown real)) journal answer was is = AskedBy journal answer was is
  AskedClocks _ journal answer was is = is ≡ was
