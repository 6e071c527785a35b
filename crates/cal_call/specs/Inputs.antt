-- What each command makes of the bytes of its input: their first fault, or the text that it writes.
use Rattle.std.specs.Prelude.{◌≡◌, ℕ, List}
use Rattle.cal_gen.specs.Generated.{generated}
use Rattle.cal_journal.specs.Printing.{journal_text}
use Rattle.cal_journal.specs.ReadBack.{HoldsJournal}
use Rattle.cal_query.specs.Layout.{IsLayout}
use Rattle.cal_read.specs.Stream.{IsFault}
use Rattle.cal_read.specs.declared.kind.StreamKind.{StreamKind}
use Rattle.cal_records.specs.Records.{records_of}
use Rattle.cal_run.specs.Plain.{plain}
use Rattle.cal_script.specs.Reading.{Means}
use Rattle.cal_script.specs.declared.journal.Journal.{Journal}
use Rattle.cal_script.specs.declared.script.Script.{Script}
use Rattle.cal_summary.specs.Summaries.{summary_of, summary_text}
use Rattle.cal_write.specs.CanonicalText.{canonical_text}
use Rattle.cal_call.specs.Refusals.{no_journal}
use Rattle.cal_call.specs.Runs.{CanRun, IsRunFault, IsScriptFault, SaysRun}
use Rattle.cal_call.specs.Tasks.{Task, GenTask, SerialTask, ThreadsTask, QueryTask}
use Rattle.cal_call.specs.declared.fault.InputKind.{InputKind}
use Rattle.cal_call.specs.declared.fault.InputKind.TheVariants.{Stream}
use Rattle.cal_call.specs.declared.words.Print as prints
use Rattle.cal_call.specs.declared.words.Print.TheVariants as print
use Rattle.cal_call.specs.declared.words.RunText as texts
use Rattle.cal_call.specs.declared.words.RunText.TheVariants as run_text

-- the first fault of the bytes is at this line, of this kind
abbrev pub IsFaultOf : Task → List ℕ → ℕ → InputKind → Type 0
IsFaultOf (GenTask seed threads lines printed) bytes line kind = ⊥
IsFaultOf SerialTask bytes line kind = IsRunFault bytes line kind
IsFaultOf (ThreadsTask shown real) bytes line kind = IsScriptFault bytes line kind
IsFaultOf (QueryTask query join) bytes line kind =
    (fault : StreamKind) × (kind ≡ Stream fault) × IsFault bytes line fault

-- What is printed of a script: its text, or the six lines of how large the run is that its text and
-- its plain journal give. (Giltmoth's rule.)
abbrev pub IsPrinted : prints.Print → (script_text text : List ℕ) → Type 0
IsPrinted print.Script script_text text = text ≡ script_text
IsPrinted print.Summary script_text text = (script : Script) × Means script_text script
    × (text ≡ summary_text (summary_of script (plain script)))

-- The text of a run that leaves this journal: that of its records, or the journal's own, whose
-- numbers are within their fields, so that it reads back.
abbrev pub IsTextOf : texts.RunText → Script → Journal → (written : List ℕ) → Type 0
IsTextOf run_text.Records script journal written =
    written ≡ canonical_text (records_of script journal)
IsTextOf run_text.Journal script journal written =
    HoldsJournal journal × (written ≡ journal_text journal)

-- The bytes have a meaning, for which this text is written: for a run that of its records by the
-- journal that it uses; for one in threads that of its records by the journal that it leaves, or of
-- this journal; and for a query the layout of its answer over the rows. What `gen` prints needs no
-- bytes.
abbrev pub Makes : Task → List ℕ → (text : List ℕ) → Journal → Type 0
Makes (GenTask seed threads lines printed) bytes text journal =
    IsPrinted printed (generated seed threads lines) text × (journal ≡ no_journal)
Makes SerialTask bytes text journal = (script : Script) × SaysRun bytes script journal
    × (text ≡ canonical_text (records_of script journal))
Makes (ThreadsTask shown real) bytes text journal = (script : Script)
    × CanRun bytes real script journal × IsTextOf shown script journal text
Makes (QueryTask query join) bytes text journal =
    IsLayout query join bytes text × (journal ≡ no_journal)
