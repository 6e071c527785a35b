-- What becomes of the clocks where nothing is written, and why a run in threads has no text.
use Rattle.std.proofs.Common.{◌≡◌, ℕ, Bool, false, true, List, refl}
use Rattle.std.specs.Prelude.{Option, None, Some, Result, Ok, Err, String}
use Rattle.std.specs.Global.{Global}
use Rattle.cal_base.specs.Change.{Change}
use Rattle.cal_ql.specs.Clauses.{reading}
use Rattle.cal_ql.specs.Tokens.{Fault}
use Rattle.cal_ql.specs.declared.query.Query.{Query}
use Rattle.cal_ran.specs.Told.{HaveToldAll}
use Rattle.cal_script.specs.Reading.{Means}
use Rattle.cal_script.specs.declared.script.Script.{Script}
use Rattle.cal_script.specs.declared.journal.Journal.{Journal}
use Rattle.cal_call.specs.Causes.{Causes, ReadsInput}
use Rattle.cal_call.specs.Clocks.{AskedBy, AskedClocks}
use Rattle.cal_call.specs.Faults.{writes}
use Rattle.cal_call.specs.Inputs.{IsTextOf, Makes}
use Rattle.cal_call.specs.Runs.{CanRun}
use Rattle.cal_call.specs.Tasks.{ThreadsTask, query_task, task_of}
use Rattle.cal_call.specs.Words.{text_at}
use Rattle.cal_call.specs.declared.fault.Fault as faults
use Rattle.cal_call.specs.declared.fault.Fault.TheVariants as fault
use Rattle.cal_call.specs.declared.words.Command.TheVariants as command
use Rattle.cal_call.specs.declared.words.RunText.{RunText}

-- a fault before the run leaves the clocks
pub left_clocks : {K : Type 0} (given : K → Option (List ℕ)) (journal : Journal) (f : faults.Fault)
    (was is : List K) → writes (Some f) ≡ false → is ≡ was → AskedBy given journal (Some f) was is
left_clocks given journal (fault.LinesRefused lines) was is unwritten same = absurd cc
left_clocks given journal (fault.Usage word) was is unwritten same = same
left_clocks given journal (fault.BadInput line kind) was is unwritten same = same
left_clocks given journal (fault.BadQuery place kind) was is unwritten same = same
left_clocks given journal fault.ReadFault was is unwritten same = same
left_clocks given journal fault.WriteFault was is unwritten same = absurd cc
left_clocks given journal fault.OutOfMemory was is unwritten same = tt
left_clocks given journal fault.TooLong was is unwritten same = same

-- an end of which something was written has told the clocks' readings
pub told_clocks : {K : Type 0} (given : K → Option (List ℕ)) (journal : Journal)
    (answer : Option faults.Fault) (was is : List K) → writes answer ≡ true
    → HaveToldAll given journal was is → AskedBy given journal answer was is
told_clocks given journal None was is written told = told
told_clocks given journal (Some (fault.LinesRefused lines)) was is written told = told
told_clocks given journal (Some (fault.Usage word)) was is written told = absurd cc
told_clocks given journal (Some (fault.BadInput line kind)) was is written told = absurd cc
told_clocks given journal (Some (fault.BadQuery place kind)) was is written told = absurd cc
told_clocks given journal (Some fault.ReadFault) was is written told = absurd cc
told_clocks given journal (Some fault.WriteFault) was is written told = told
told_clocks given journal (Some fault.OutOfMemory) was is written told = tt
told_clocks given journal (Some fault.TooLong) was is written told = absurd cc

read_asks_none : {K : Type 0} (given : K → Option (List ℕ)) (join : Bool)
    (read : Result Query Fault) (journal : Journal) (answer : Option faults.Fault) (was : List K)
    → AskedClocks given (query_task join read) journal answer was was
read_asks_none given join (Err found) journal answer was = refl
read_asks_none given join (Ok query) journal answer was = refl

-- a query asks no clock
pub query_asks_none : {K : Type 0} (given : K → Option (List ℕ)) (words : List (String Global))
    (q : Option ℕ) (join : Bool) (journal : Journal) (answer : Option faults.Fault)
    (was : List K)
    → AskedClocks given (task_of words (command.Query q join)) journal answer was was
query_asks_none given words q join journal answer was =
    read_asks_none given join (reading (text_at words q)) journal answer was

-- the text of a run of the script that was read
pub makes_run : (shown : RunText) (real : Bool) (input : Change) (script : Script)
    (journal : Journal) (written : List ℕ) → ReadsInput input (λ bytes. Means bytes script)
    → ((bytes : List ℕ) → Means bytes script → CanRun bytes real script journal)
    → IsTextOf shown script journal written
    → ReadsInput input (λ bytes. Makes (ThreadsTask shown real) bytes written journal)
makes_run shown real input script journal written reads runs text =
    (reads.0, reads.1, (script, runs reads.0 reads.2, text))

-- memory ran out behind the reading
pub ran_out_behind : (shown : RunText) (real : Bool) (input output : Change) (journal : Journal)
    (P : List ℕ → Type 0) → ReadsInput input P
    → Causes (ThreadsTask shown real) input output journal fault.OutOfMemory
ran_out_behind shown real input output journal P reads = (reads.0, reads.1.within, reads.1.taken)
