-- What `watch` answers, and why, by what it did to the input and the output that it was lent.
use Rattle.std.specs.Prelude.{◌≡◌, ℕ, false, List, [], Option, None, Some, Result, Ok, Err}
use Rattle.cal_base.specs.Change.{Change, HasFailed}
use Rattle.cal_base.specs.Told.{Appends, AppendsFront}
use Rattle.cal_call.specs.Causes as queries
use Rattle.cal_call.specs.Causes.{ReadsInput}
use Rattle.cal_call.specs.Refusals.{no_journal}
use Rattle.cal_call.specs.Tasks.{QueryTask, Refusal}
use Rattle.cal_call.specs.declared.fault.Fault as faults
use Rattle.cal_call.specs.declared.fault.Fault.TheVariants as fault
use Rattle.cal_query.specs.Layout.{IsLayoutWhere}
use Rattle.cal_watch.specs.Named.{conditions_of}
use Rattle.cal_call_watch.specs.Tasks.{WatchTask, in_front}

-- The input was read to its end, within the limit, and what the query prints of those of its rows
-- of which the trigger's conditions hold was put behind what the output has.
abbrev pub Writes : WatchTask → Change → Change → Type 0
Writes task input output = ReadsInput input (λ bytes. (text : List ℕ)
    × IsLayoutWhere (conditions_of task.trigger) task.query bytes text
    × Appends output.old output.new text)

-- some front of it was
abbrev pub WritesFront : WatchTask → Change → Change → Type 0
WritesFront task input output = ReadsInput input (λ bytes. (text : List ℕ)
    × IsLayoutWhere (conditions_of task.trigger) task.query bytes text
    × AppendsFront output.old output.new text)

-- Which fault has which cause, where the words ask for a task: as the same query has it of `query`,
-- but for the text of which a front was written.
abbrev pub Causes : WatchTask → Change → Change → faults.Fault → Type 0
Causes task input output fault.WriteFault = HasFailed output × WritesFront task input output
Causes task input output f =
    queries.Causes (QueryTask task.query false) input output no_journal f

-- What is answered: to words that are refused, as `query` answers them; to a task, nothing where the
-- text was written whole, and else a fault that has its cause.
abbrev pub Answers : Result WatchTask Refusal → Change → Change → Option faults.Fault → Type 0
Answers (Err refusal) input output answer =
    queries.Answers (Err refusal) input output no_journal answer
Answers (Ok task) input output None = Writes task input output
Answers (Ok task) input output (Some f) = Causes task input output f

-- Of a query without LET the text that was written whole is that which `query` writes for the query
-- with the trigger's conditions in front of those of its WHERE.
abbrev pub WritesInFront : Result WatchTask Refusal → Change → Change → Option faults.Fault
    → Type 0
WritesInFront (Ok task) input output None =
    task.query.lets ≡ [] → queries.Writes (in_front task) input output no_journal
WritesInFront _ input output _ = Unit {0}
