-- What is kept of the journal that a run used.
use Rattle.cal_run.specs.Plain.{plain}
use Rattle.cal_script.specs.declared.journal.Journal.{Journal}
use Rattle.cal_script.specs.Valid.{IsRunnable}
use Rattle.cal_call.specs.declared.used.Kept as keeps
use Rattle.cal_call.specs.declared.used.Kept.TheVariants as kept

-- the journal: the one that is kept, or the plain one of the script that is
abbrev pub journal_of : keeps.Kept → Journal
journal_of (kept.Given journal) = journal
journal_of (kept.Plain script) = plain script

-- the script can be run
abbrev pub CanBeMade : keeps.Kept → Type 0
CanBeMade (kept.Given journal) = Unit {0}
CanBeMade (kept.Plain script) = IsRunnable script
