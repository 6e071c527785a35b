-- What the words of `watch` ask for, once the text of the query is read.
use Rattle.std.specs.Prelude.{ℕ, false, List, Result, Ok, Err, String}
use Rattle.std.specs.Global.{Global}
use Rattle.cal_call.specs.Tasks.{QueryTask, Refusal, Task, by_text, by_word}
use Rattle.cal_call.specs.Words.{text_at}
use Rattle.cal_call.specs.declared.fault.Fault.TheVariants as fault
use Rattle.cal_ql.specs.Clauses.{reading}
use Rattle.cal_ql.specs.Tokens.{Fault}
use Rattle.cal_ql.specs.declared.query.Query.{Query}
use Rattle.cal_trigger.specs.Watching.{with_conditions}
use Rattle.cal_call_watch.specs.Words.{asked}
use Rattle.cal_watch.specs.Named.{conditions_of}
use Rattle.cal_watch.specs.declared.watched.TriggerName as triggers
use Rattle.cal_call_watch.specs.declared.words.WatchCommand.{WatchCommand}

-- a query to be answered over the rows that a trigger lets through
pub record WatchTask : Type 0 where
  pub trigger : triggers.TriggerName
  pub query : Query

-- a text that is no query is refused for its first fault
abbrev pub watch_task : triggers.TriggerName → Result Query Fault → Result WatchTask Refusal
watch_task name (Err found) = Err (by_text (fault.BadQuery found.place found.kind))
watch_task name (Ok query) = Ok (record { trigger = name; query = query })

abbrev pub task_of : List (String Global) → Result WatchCommand ℕ → Result WatchTask Refusal
task_of words (Err place) = Err (by_word place)
task_of words (Ok command) = watch_task command.trigger (reading (text_at words command.q))

-- what the words behind the program's name ask for, or why they are refused
abbrev pub tasked : List (String Global) → Result WatchTask Refusal
tasked words = task_of words (asked words)

-- what `query` is asked for by the same query
abbrev pub as_query : Result WatchTask Refusal → Result Task Refusal
as_query (Err refusal) = Err refusal
as_query (Ok task) = Ok (QueryTask task.query false)

-- what `query` is asked for by the query with the trigger's conditions in front of those of WHERE
abbrev pub in_front : WatchTask → Task
in_front task = QueryTask (with_conditions (conditions_of task.trigger) task.query) false
