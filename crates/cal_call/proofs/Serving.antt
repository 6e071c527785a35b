-- Why `serial` answers a fault behind the reading.
use Rattle.std.proofs.Common.{ℕ, inr, List}
use Rattle.std.specs.Prelude.{Option, Some, None}
use Rattle.cal_base.specs.Change.{Change}
use Rattle.cal_journal.specs.Both.{MeansBoth}
use Rattle.cal_script.specs.declared.journal.Journal.{Journal}
use Rattle.cal_script.specs.declared.journal.JournalText.{JournalText}
use Rattle.cal_script.specs.declared.script.Script.{Script}
use Rattle.cal_call.specs.Causes.{Causes, ReadsInput}
use Rattle.cal_call.specs.Runs.{CannotUse}
use Rattle.cal_call.specs.Tasks.{SerialTask}
use Rattle.cal_call.specs.declared.fault.Fault as faults
use Rattle.cal_call.specs.declared.fault.Fault.TheVariants as fault
use Rattle.cal_call.specs.declared.fault.InputKind.TheVariants as kind

module _ (input : Change) (script : Script) where
  -- memory ran out behind the reading
  ran_out : (P : List ℕ → Type 0) (output : Change) (journal : Journal) → ReadsInput input P
      → Causes SerialTask input output journal fault.OutOfMemory
  ran_out P output journal reads = (reads.0, reads.1.within, reads.1.taken)

  -- the script has no journal to use
  pub cannot_use : (behind : Option JournalText) (f : faults.Fault)
      → ReadsInput input (λ bytes. MeansBoth bytes (script, behind)) → CannotUse script behind f
      → (output : Change) (journal : Journal) → Causes SerialTask input output journal f
  cannot_use (Some text) (fault.BadInput line (kind.Journal rule)) reads cannot output journal = (
    reads.0,
    reads.1,
    inr (record {
      script = script;
      text = text;
      means = reads.2;
      broken = cannot;
    }),
  )
  cannot_use (Some text) fault.OutOfMemory reads cannot output journal =
      ran_out (λ bytes. MeansBoth bytes (script, Some text)) output journal reads
  cannot_use (Some text) f reads cannot output journal = absurd cannot
  cannot_use None fault.OutOfMemory reads cannot output journal =
      ran_out (λ bytes. MeansBoth bytes (script, None)) output journal reads
  cannot_use None f reads cannot output journal = absurd cannot
