-- What the words of `live` ask for: what `replay` is asked for by the same clock.
use Rattle.std.specs.Prelude.{ℕ, List, Result, Ok, Err, String}
use Rattle.std.specs.Global.{Global}
use Rattle.cal_call.specs.Tasks.{Refusal, Task, ThreadsTask, by_word}
use Rattle.cal_call.specs.declared.words.RunText.TheVariants as run_text
use Rattle.cal_call_live.specs.Words.{asked}
use Rattle.cal_call_live.specs.declared.words.LiveCommand.{LiveCommand}

-- the records of a run in threads, by a real clock or by the script's
abbrev pub task_of : Result LiveCommand ℕ → Result Task Refusal
task_of (Err place) = Err (by_word place)
task_of (Ok command) = Ok (ThreadsTask run_text.Records command.real)

-- what the words behind the program's name ask for, or why they are refused
abbrev pub tasked : List (String Global) → Result Task Refusal
tasked words = task_of (asked words)
