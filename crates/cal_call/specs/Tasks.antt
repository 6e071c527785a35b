-- What the words ask for, once the text of a query is read.
use Rattle.std.specs.Prelude.{ℕ, Bool, List, Result, Ok, Err, String}
use Rattle.std.specs.Global.{Global}
use Rattle.cal_ql.specs.Clauses.{reading}
use Rattle.cal_ql.specs.Tokens.{Fault}
use Rattle.cal_ql.specs.declared.query.Query.{Query}
use Rattle.cal_call.specs.Words.{asked, text_at}
use Rattle.cal_call.specs.declared.fault.Fault as faults
use Rattle.cal_call.specs.declared.fault.Fault.TheVariants as fault
use Rattle.cal_call.specs.declared.words.Command as commands
use Rattle.cal_call.specs.declared.words.Command.TheVariants as command
use Rattle.cal_call.specs.declared.words.Print.{Print}
use Rattle.cal_call.specs.declared.words.RunText.{RunText}
use Rattle.cal_call.specs.declared.words.RunText.TheVariants as run_text

-- what a command does: `gen` makes the script of a seed, with so many threads of so many lines, and
-- prints it or how large its run is; `replay` and `journal` run a script in threads, by a real clock
-- or by the script's, and write the text of its records or that of its journal; `query` answers a
-- query, with the globals joined to each row or not
pub data Task : Type 0 where
  GenTask : ℕ → ℕ → ℕ → Print → Task
  SerialTask : Task
  ThreadsTask : RunText → Bool → Task
  QueryTask : Query → Bool → Task

-- why the words are refused: for the word at a place, or for what the text of a query says
pub data Refusal : Type 0 where
  by_word : ℕ → Refusal
  by_text : faults.Fault → Refusal

-- a text that is no query is refused for its first fault
abbrev pub query_task : Bool → Result Query Fault → Result Task Refusal
query_task join (Err found) = Err (by_text (fault.BadQuery found.place found.kind))
query_task join (Ok query) = Ok (QueryTask query join)

abbrev pub task_of : List (String Global) → commands.Command → Result Task Refusal
task_of words (command.Gen seed threads lines print) = Ok (GenTask seed threads lines print)
task_of words command.Serial = Ok SerialTask
task_of words (command.Replay real) = Ok (ThreadsTask run_text.Records real)
task_of words (command.Journal real) = Ok (ThreadsTask run_text.Journal real)
task_of words (command.Query q join) = query_task join (reading (text_at words q))

abbrev pub task_asked : List (String Global) → Result commands.Command ℕ → Result Task Refusal
task_asked words (Err place) = Err (by_word place)
task_asked words (Ok command) = task_of words command

-- what the words behind the program's name ask for, or why they are refused
abbrev pub tasked : List (String Global) → Result Task Refusal
tasked words = task_asked words (asked words)

-- no input is read: the words are refused, or ask for a script that needs none
abbrev pub LeavesInput : Result Task Refusal → Type 0
LeavesInput (Err refusal) = Unit {0}
LeavesInput (Ok (GenTask seed threads lines print)) = Unit {0}
LeavesInput (Ok _) = ⊥
