-- What was written of a run (private).
use Rattle.std.specs.Prelude.{◌≡◌}
use Rattle.cal_records.specs.Records.{records_of}
use Rattle.cal_script.specs.declared.journal.Journal.{Journal}
use Rattle.cal_script.specs.declared.script.Script.{Script}
use Rattle.cal_write.specs.CanonicalText.{canonical_text}
use Rattle.cal_call.specs.Refusals.{refused_lines}
use Rattle.cal_call.specs.declared.journal.Written.{Written}

-- the text of the run's records by a journal, and how many of its lines were refused
pub record IsWritten (script : Script) (journal : Journal) (written : Written) : Type 0 where
  pub text : written.text ≡ canonical_text (records_of script journal)
  pub refused : written.refused ≡ refused_lines journal
