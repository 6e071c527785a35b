-- What is answered where the text of a query is refused, or memory runs out while it is read.
use Rattle.std.proofs.Common.{◌≡◌, ◌⊎◌, ℕ, Bool, List, [], Option, Some, None, Result, Ok, Err}
use Rattle.std.proofs.Common.{refl, sym, subst, arith, inl, inr}
use Rattle.std.specs.Prelude.{String, IsErr}
use Rattle.std.specs.Global.{Global}
use Rattle.cal_base.specs.Change.{Change}
use Rattle.cal_base.specs.Told.{Takes, TakesUpTo}
use Rattle.cal_script.specs.declared.journal.Journal.{Journal}
use Rattle.cal_ql.specs.Clauses.{reading}
use Rattle.cal_ql.specs.Tokens.{Fault}
use Rattle.cal_ql.specs.declared.query.Query.{Query}
use Rattle.cal_call.specs.Causes.{Answers, input_limit}
use Rattle.cal_call.specs.Tasks.{LeavesInput, Refusal, Task, by_text, query_task, task_of}
use Rattle.cal_call.specs.Words.{text_at}
use Rattle.cal_call.specs.declared.fault.Fault as faults
use Rattle.cal_call.specs.declared.fault.Fault.TheVariants as fault
use Rattle.cal_call.specs.declared.words.Command.TheVariants as command

takes_nothing : (told : Option (List ℕ)) → Takes told told []
takes_nothing None = tt
takes_nothing (Some left) = refl

-- memory may run out before anything was read
pub nothing_read : (limit : ℕ) (told : Option (List ℕ)) → TakesUpTo limit told told
nothing_read limit told = ([], omega arith, takes_nothing told)

module _ (input output : Change) (journal : Journal) (same : input.new ≡ input.old) where
  ran_out : (join : Bool) (read : Result Query Fault)
      → Answers (query_task join read) input output journal (Some fault.OutOfMemory)
  ran_out join (Err found) = inr refl
  ran_out join (Ok query) =
      subst (λ (new : Option (List ℕ)). TakesUpTo input_limit input.old new) (sym same)
      (nothing_read input_limit input.old)

  told : (tasked : Result Task Refusal) (f : faults.Fault) → tasked ≡ Err (by_text f)
      → Answers tasked input output journal (Some f)
  told tasked f is = rw is (inl refl)

  -- the text of a query is refused, or memory ran out
  pub text_refused : (words : List (String Global)) (q : Option ℕ) (join : Bool) (f : faults.Fault)
      → (f ≡ fault.OutOfMemory)
      ⊎ ((j : Bool) → task_of words (command.Query q j) ≡ Err (by_text f))
      → Answers (task_of words (command.Query q join)) input output journal (Some f)
  text_refused words q join f (inl memory) =
      rw memory (ran_out join (reading (text_at words q)))
  text_refused words q join f (inr refused) =
      told (task_of words (command.Query q join)) f (refused join)

leaves_read : (join : Bool) (read : Result Query Fault)
    → LeavesInput (query_task join read) → IsErr (query_task join read)
leaves_read join (Err found) leaves = refl
leaves_read join (Ok query) leaves = absurd leaves

-- a query reads its input, unless its text is refused
pub leaves_query : (words : List (String Global)) (q : Option ℕ) (join : Bool)
    → LeavesInput (task_of words (command.Query q join))
    → IsErr (task_of words (command.Query q join))
leaves_query words q join leaves = leaves_read join (reading (text_at words q)) leaves
