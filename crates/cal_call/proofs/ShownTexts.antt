-- What a task answers where its text was shown.
use Rattle.std.proofs.Common.{◌≡◌, ◌<◌, ℕ, List, refl}
use Rattle.std.specs.Prelude.{Option, Some, None, Ok}
use Rattle.cal_base.specs.Change.{Change}
use Rattle.cal_script.specs.declared.journal.Journal.{Journal}
use Rattle.cal_call.specs.Causes.{Answers, WorksOn, Writes}
use Rattle.cal_call.specs.Ends.{Shows}
use Rattle.cal_call.specs.Inputs.{Makes}
use Rattle.cal_call.specs.Refusals.{refused_lines}
use Rattle.cal_call.specs.Tasks.{Task, GenTask, SerialTask, ThreadsTask, QueryTask}
use Rattle.cal_call.specs.declared.fault.Fault as faults
use Rattle.cal_call.specs.declared.fault.Fault.TheVariants as fault

-- what holds of the bytes of a task, weaker
works_then : (task : Task) (input : Change) (P Q : List ℕ → Type 0)
    → ((bytes : List ℕ) → P bytes → Q bytes) → WorksOn task input P → WorksOn task input Q
works_then (GenTask seed threads lines print) input P Q then works = then _ works
works_then SerialTask input P Q then works = (works.0, works.1, then works.0 works.2)
works_then (ThreadsTask shown real) input P Q then works =
    (works.0, works.1, then works.0 works.2)
works_then (QueryTask query join) input P Q then works = (works.0, works.1, then works.0 works.2)

module _ (task : Task) (input output : Change) (journal : Journal) (text : List ℕ)
    (works : WorksOn task input (λ bytes. Makes task bytes text journal)) where
  -- the text was written whole
  written : Shows text output None → Writes task input output journal
  written shown = works_then task input _ _ (λ bytes makes. (text, makes, shown)) works

  failed : (f : faults.Fault) → Shows text output (Some f)
      → Answers (Ok task) input output journal (Some f)
  failed f shown =
      rw shown.0
      (shown.1, works_then task input _ _ (λ bytes makes. (text, makes, shown.2)) works)

  -- no line was refused
  pub shown_answers : (answer : Option faults.Fault) → refused_lines journal ≡ 0
      → Shows text output answer → Answers (Ok task) input output journal answer
  shown_answers None none shown = (written shown, none)
  shown_answers (Some f) none shown = failed f shown

  -- so many lines were refused
  pub shown_refused : (lines : ℕ) → lines ≡ refused_lines journal → 0 < lines
      → Shows text output None
      → Answers (Ok task) input output journal (Some (fault.LinesRefused lines))
  shown_refused lines counted some shown = (written shown, counted, some)

  pub shown_failed : (f : faults.Fault) → Shows text output (Some f)
      → Answers (Ok task) input output journal (Some f)
  shown_failed f shown = failed f shown
