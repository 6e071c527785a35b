-- The bytes of an input decide the fault of `watch` as they decide that of `query`.
use Rattle.std.proofs.Common.{ℕ, List, Option, Some, None, Result, Ok, Err, false, refl, arith}
use Rattle.std.proofs.lemmas.Option.{IfSome_then}
use Rattle.cal_base.specs.Change.{Change}
use Rattle.cal_call.specs.Causes as queries
use Rattle.cal_call.specs.Refusals.{no_journal}
use Rattle.cal_call.specs.Tasks.{QueryTask, Refusal, Task, by_text, by_word}
use Rattle.cal_call.specs.declared.fault.Fault as faults
use Rattle.cal_call.specs.declared.fault.Fault.TheVariants as fault
use Rattle.cal_call.proofs.Deciding.{answers_decide}
use Rattle.cal_call.proofs.RunFaults.{IsOneRule}
use Rattle.cal_query.specs.Joining.{rows_seen}
use Rattle.cal_query.specs.Layout.{IsLayout, IsLayoutWhere, answer_text}
use Rattle.cal_watch.specs.Named.{conditions_of}
use Rattle.cal_call_watch.specs.Answers.{Answers}
use Rattle.cal_call_watch.specs.Tasks.{WatchTask, as_query}

-- an output that tells nothing, and failed where this one did
abbrev silent : Change → Change
silent output = record {
  old = None;
  new = None;
  faults_before = output.faults_before;
  faults_now = output.faults_now;
}

-- the same stream has a text by `query` too
text_of : (task : WatchTask) (bytes text : List ℕ)
    → IsLayoutWhere (conditions_of task.trigger) task.query bytes text
    → (other : List ℕ) × IsLayout task.query false bytes other
text_of task bytes text own = (
  answer_text task.query (rows_seen false own.records),
  record { records = own.records; stream = own.stream; is = refl },
)

-- where nothing is told of the output, `query` may answer the same
as_answered : (asked : Result WatchTask Refusal) (input output : Change)
    (answer : Option faults.Fault) → Answers asked input output answer
    → queries.Answers (as_query asked) input (silent output) no_journal answer
as_answered (Err (by_word place)) input output answer given = given
as_answered (Err (by_text f)) input output answer given = given
as_answered (Ok task) input output None given =
    let other = text_of task given.0 given.2.0 given.2.1 in
    ((given.0, given.1, (other.0, (other.1, refl), tt)), refl)
as_answered (Ok task) input output (Some fault.WriteFault) given =
    let other = text_of task given.1.0 given.1.2.0 given.1.2.1 in
    (given.0, (given.1.0, given.1.1, (other.0, (other.1, refl), (0, tt))))
as_answered (Ok task) input output (Some (fault.LinesRefused lines)) given =
    absurd (omega (arith, given.1, given.2))
as_answered (Ok task) input output (Some (fault.Usage word)) given = given
as_answered (Ok task) input output (Some (fault.BadInput line kind)) given = given
as_answered (Ok task) input output (Some (fault.BadQuery place kind)) given = given
as_answered (Ok task) input output (Some fault.ReadFault) given = given
as_answered (Ok task) input output (Some fault.OutOfMemory) given = given
as_answered (Ok task) input output (Some fault.TooLong) given = given

-- what is due hangs on whether the output failed alone
due_of : (task : Task) (bytes : List ℕ) (output : Change) (answer : Option faults.Fault)
    → queries.IsDue task bytes (silent output) answer → queries.IsDue task bytes output answer
due_of task bytes output answer due = record {
  too_long = due.too_long;
  bad_input = due.bad_input;
  whole = due.whole;
  written = due.written;
  refused = due.refused;
}

pub watch_decides : IsOneRule → (asked : Result WatchTask Refusal) (input output : Change)
    (answer : Option faults.Fault) → Answers asked input output answer
    → queries.BytesDecide (as_query asked) input output answer
watch_decides law (Err (by_word place)) input output answer given = tt
watch_decides law (Err (by_text f)) input output answer given =
    answers_decide law (Err (by_text f)) input (silent output) no_journal answer given
watch_decides law (Ok task) input output answer given = λ sound memory.
    IfSome_then input.old
    (answers_decide law (Ok (QueryTask task.query false)) input (silent output) no_journal answer
    (as_answered (Ok task) input output answer given) sound memory)
    (λ bytes due. due_of (QueryTask task.query false) bytes output answer due)
