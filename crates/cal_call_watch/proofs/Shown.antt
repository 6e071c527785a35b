-- What `watch` answers where its text was shown, where the text of the query is refused, and where
-- the query has no LET.
use Rattle.std.proofs.Common.{◌≡◌, ◌⊎◌, ℕ, Bool, false, inl, inr, List, [], Option, Some, None}
use Rattle.std.proofs.Common.{Result, Ok, Err, refl, sym, ap, subst, ◌∙◌}
use Rattle.std.specs.Prelude.{String, IsErr}
use Rattle.std.specs.Global.{Global}
use Rattle.cal_base.specs.Change.{Change}
use Rattle.cal_base.specs.Told.{TakesUpTo}
use Rattle.cal_call.specs.Causes.{ReadsInput, input_limit}
use Rattle.cal_call.specs.Causes as queries
use Rattle.cal_call.proofs.Tasks.{nothing_read}
use Rattle.cal_call.specs.Ends.{Shows}
use Rattle.cal_call.specs.Refusals.{no_journal}
use Rattle.cal_call.specs.Tasks.{QueryTask, Refusal, Task, by_text, query_task}
use Rattle.cal_call.specs.Words.{text_at}
use Rattle.cal_call.specs.declared.fault.Fault as faults
use Rattle.cal_call.specs.declared.fault.Fault.TheVariants as fault
use Rattle.cal_engine.specs.Answers.{answer_of}
use Rattle.cal_ql.specs.Clauses.{reading}
use Rattle.cal_ql.specs.Tokens.{Fault}
use Rattle.cal_ql.specs.declared.query.Cond.{Cond}
use Rattle.cal_ql.specs.declared.query.Query.{Query}
use Rattle.cal_query.specs.Layout.{IsLayoutWhere, layout}
use Rattle.cal_trigger.specs.Watching.{let_through, with_conditions}
use Rattle.cal_value.specs.declared.record.Rec.{Rec}
use Rattle.cal_watch.specs.Named.{conditions_of}
use Rattle.cal_call_watch.specs.Answers.{Answers, WritesInFront}
use Rattle.cal_call_watch.specs.Tasks.{WatchTask, watch_task}
use Rattle.cal_watch.specs.declared.watched.TriggerName.{TriggerName}

-- the text was written whole, or the output failed
pub shown_answers : (task : WatchTask) (input output : Change) (text : List ℕ)
    (answer : Option faults.Fault)
    → ReadsInput input
    (λ bytes. IsLayoutWhere (conditions_of task.trigger) task.query bytes text)
    → Shows text output answer → Answers (Ok task) input output answer
shown_answers task input output text None reads shown =
    (reads.0, reads.1, (text, reads.2, shown))
shown_answers task input output text (Some f) reads shown =
    rw shown.0 (shown.1, (reads.0, reads.1, (text, reads.2, shown.2)))

-- what the text of a query says to `query` it says to `watch`
pub read_alike : (name : TriggerName) (join : Bool) (read : Result Query Fault) (query : Query)
    → query_task join read ≡ Ok (QueryTask query join)
    → watch_task name read ≡ Ok (record { trigger = name; query = query })
read_alike name join (Err found) query is = absurd cc
read_alike name join (Ok own) query is =
    let same : own ≡ query = cc in
    ap (λ (q : Query). Ok (record { trigger = name; query = q })) same

pub refused_alike : (name : TriggerName) (join : Bool) (read : Result Query Fault)
    (f : faults.Fault) → query_task join read ≡ Err (by_text f)
    → watch_task name read ≡ Err (by_text f)
refused_alike name join (Err found) f is =
    let same : fault.BadQuery found.place found.kind ≡ f = cc in
    ap (λ (g : faults.Fault). Err (by_text g)) same
refused_alike name join (Ok query) f is = absurd cc

-- without LET the rows that a trigger lets through are asked for in front of WHERE
pub answers_in_front : ((conds : List Cond) (q : Query) (rows : List Rec) → q.lets ≡ []
    → answer_of q (let_through conds rows) ≡ answer_of (with_conditions conds q) rows)
    → (asked : Result WatchTask Refusal) (input output : Change) (answer : Option faults.Fault)
    → Answers asked input output answer → WritesInFront asked input output answer
answers_in_front law (Ok task) input output None given = λ bare.
    let own : IsLayoutWhere (conditions_of task.trigger) task.query given.0 given.2.0 = given.2.1 in (
      given.0,
      given.1,
      (
        given.2.0,
        (
          record {
            records = own.records;
            stream = own.stream;
            is = own.is ∙ ap (layout task.query.format)
                (law (conditions_of task.trigger) task.query own.records.rows bare);
          },
          refl,
        ),
        given.2.2,
      ),
    )
answers_in_front law (Ok task) input output (Some f) given = tt
answers_in_front law (Err refusal) input output answer given = tt

module _ (input output : Change) (same : input.new ≡ input.old) where
  ran_out : (name : TriggerName) (read : Result Query Fault)
      → Answers (watch_task name read) input output (Some fault.OutOfMemory)
  ran_out name (Err found) = inr refl
  ran_out name (Ok query) =
      subst (λ (new : Option (List ℕ)). TakesUpTo input_limit input.old new) (sym same)
      (nothing_read input_limit input.old)

  told : (tasked : Result WatchTask Refusal) (f : faults.Fault) → tasked ≡ Err (by_text f)
      → Answers tasked input output (Some f)
  told tasked f is = rw is (inl refl)

  -- the text of a query is refused, or memory ran out
  pub text_refused : (name : TriggerName) (read : Result Query Fault) (f : faults.Fault)
      → (f ≡ fault.OutOfMemory) ⊎ ((join : Bool) → query_task join read ≡ Err (by_text f))
      → Answers (watch_task name read) input output (Some f)
  text_refused name read f (inl memory) = rw memory (ran_out name read)
  text_refused name read f (inr refused) =
      told (watch_task name read) f (refused_alike name false read f (refused false))

-- what asks for a task isn't refused
pub not_refused : (tasked : Result WatchTask Refusal) (task : WatchTask) → tasked ≡ Ok task
    → IsErr tasked → ⊥
not_refused (Ok own) task is err = absurd cc
not_refused (Err refusal) task is err = absurd cc
