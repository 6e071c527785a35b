-- What `serial` makes of a journal that was written, behind its script.
use Rattle.std.specs.Prelude.{◌≡◌, ◌↔◌, ℕ, Bool, List, ◌++◌}
use Rattle.cal_script.specs.declared.journal.Journal.{Journal}
use Rattle.cal_call.specs.Inputs.{Makes}
use Rattle.cal_call.specs.Tasks.{SerialTask, ThreadsTask}
use Rattle.cal_call.specs.declared.words.RunText.TheVariants as run_text

-- `serial` makes of a script with these bytes behind it exactly what `replay` makes of the script
-- where its run leaves this journal.
abbrev pub IsSaidAgain : (script behind : List ℕ) (real : Bool) → Journal → Type 0
IsSaidAgain script behind real journal = (written : List ℕ) (used : Journal)
    → Makes SerialTask (script ++ behind) written used
    ↔ ((used ≡ journal) × Makes (ThreadsTask run_text.Records real) script written journal)
