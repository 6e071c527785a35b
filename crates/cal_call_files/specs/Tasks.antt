-- What the words of `files` ask for, once the text of the query is read.
use Rattle.std.specs.Prelude.{ℕ, List, Result, Ok, Err, String}
use Rattle.std.specs.Global.{Global}
use Rattle.cal_call.specs.Words.{text_at}
use Rattle.cal_ql.specs.Clauses.{reading}
use Rattle.cal_ql.specs.Tokens.{Fault}
use Rattle.cal_ql.specs.declared.query.Query.{Query}
use Rattle.cal_call_files.specs.Words.{asked, names_of}
use Rattle.cal_call_files.specs.declared.words.FilesCommand.{FilesCommand}

-- a query to be answered over the rows of the files of these names
pub record FilesTask : Type 0 where
  pub names : List (List ℕ)
  pub query : Query

-- why the words are refused: for the word at a place, or for the first fault of a query's text
pub data Refusal : Type 0 where
  by_word : ℕ → Refusal
  by_text : Fault → Refusal

abbrev pub files_task : List (List ℕ) → Result Query Fault → Result FilesTask Refusal
files_task names (Err found) = Err (by_text found)
files_task names (Ok query) = Ok (record { names = names; query = query })

abbrev pub task_of : List (String Global) → Result FilesCommand ℕ → Result FilesTask Refusal
task_of words (Err place) = Err (by_word place)
task_of words (Ok command) = files_task (names_of words) (reading (text_at words command.q))

-- what the words behind the program's name ask for, or why they are refused
abbrev pub tasked : List (String Global) → Result FilesTask Refusal
tasked words = task_of words (asked words)
