-- What `serial` makes of a script and of a journal behind it, or none, and `replay` of a script
-- alone: their first fault, or a run.
use Rattle.std.specs.Prelude.{◌≡◌, ◌⊎◌, ℕ, Bool, List, Option, Some, None}
use Rattle.cal_journal.specs.Both.{HasJournalFault, HasScriptFault, MeansBoth, StandsScript}
use Rattle.cal_journal.specs.declared.kind.JournalKind.{JournalKind}
use Rattle.cal_lawful.specs.Broken.{IsFirstBroken, IsLawfulText}
use Rattle.cal_run.specs.Lawful.{Lawful}
use Rattle.cal_run.specs.Plain.{plain}
use Rattle.cal_script.specs.Faults.{HasFault}
use Rattle.cal_script.specs.Lines.{lines_of}
use Rattle.cal_script.specs.Reading.{Means}
use Rattle.cal_script.specs.declared.journal.Journal.{Journal}
use Rattle.cal_script.specs.declared.journal.JournalText.{JournalText}
use Rattle.cal_script.specs.declared.script.Script.{Script}
use Rattle.cal_call.specs.declared.fault.Fault as faults
use Rattle.cal_call.specs.declared.fault.Fault.TheVariants as fault
use Rattle.cal_call.specs.declared.fault.InputKind.{InputKind}
use Rattle.cal_call.specs.declared.fault.InputKind.TheVariants as kind

-- The journal that a run uses: the one behind the script, which is a lawful one of it; or, where
-- none is there, that of the threads one after another. (Giltmoth's rule.)
abbrev pub Uses : Script → Option JournalText → Journal → Type 0
Uses script None journal = journal ≡ plain script
Uses script (Some text) journal = IsLawfulText script text × (journal ≡ text.journal)

-- The bytes say the script of a run and the journal that it uses.
pub record SaysRun (bytes : List ℕ) (script : Script) (journal : Journal) : Type 0 where
  pub behind : Option JournalText
  pub means : MeansBoth bytes (script, behind)
  pub uses : Uses script behind journal

-- The bytes mean the script, and the journal is a lawful one of it, by a real clock or by the
-- script's. Which of them a run in threads leaves is settled by how these interleave.
pub record CanRun (bytes : List ℕ) (real : Bool) (script : Script) (journal : Journal)
    : Type 0 where
  pub means : Means bytes script
  pub lawful : Lawful script journal
  pub clock : journal.real ≡ real

-- The journal behind the script breaks this rule first, and on this line first.
pub record BreaksRule (bytes : List ℕ) (line : ℕ) (rule : JournalKind) : Type 0 where
  pub script : Script
  pub text : JournalText
  pub means : MeansBoth bytes (script, Some text)
  pub broken : IsFirstBroken script text rule line

-- The first fault of a run's bytes: one of the script, or else one of the journal's form, or else a
-- rule that it breaks. (Giltmoth's rule.)
abbrev pub IsRunFault : List ℕ → ℕ → InputKind → Type 0
IsRunFault bytes line (kind.Script k) = HasScriptFault (lines_of bytes) line k
IsRunFault bytes line (kind.Journal k) =
    (StandsScript (lines_of bytes) × HasJournalFault (lines_of bytes) line k)
    ⊎ BreaksRule bytes line k
IsRunFault bytes line (kind.Stream k) = ⊥

-- The first fault of a script's bytes. A journal's line is a line like any other there.
abbrev pub IsScriptFault : List ℕ → ℕ → InputKind → Type 0
IsScriptFault bytes line (kind.Script k) = HasFault bytes line k
IsScriptFault bytes line _ = ⊥

-- Why a script has no journal to use: the one behind it breaks a rule first, or memory ran out
-- (private).
abbrev pub CannotUse : Script → Option JournalText → faults.Fault → Type 0
CannotUse script (Some text) (fault.BadInput line (kind.Journal rule)) =
    IsFirstBroken script text rule line
CannotUse script text fault.OutOfMemory = Unit {0}
CannotUse _ _ _ = ⊥
