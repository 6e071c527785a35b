use Rattle.std.proofs.Common.{◌∙◌, ap, subst, sym}
use Rattle.cal_records.specs.Records.{records_of}
use Rattle.cal_run.specs.Lawful.{Lawful}
use Rattle.cal_script.specs.declared.journal.Journal.{Journal}
use Rattle.cal_write.specs.CanonicalText.{canonical_text}
use Rattle.cal_call_live.specs.Quiet.{IsQuiet}
use Rattle.cal_call_live.proofs.Unbusy.{journal-quiet}
use Rattle.cal_call_live.proofs.living.run_to_text.Goals as goal

pub made_of-requires-clause-runnable : goal.made_of-requires-clause-runnable
made_of-requires-clause-runnable g c =
    c.valid_script_law.ensures c.args.script.now c.requires.script

-- the journal of the run that has ended is lawful
pub made_of-requires-clause-lawful : goal.made_of-requires-clause-lawful
made_of-requires-clause-lawful g c =
    subst (Lawful c.args.script.now) (sym c.in_ok-replayed.ensures.journal)
    c.in_ok-ended.ensures.ended.lawful

-- and it is the one that is given
pub returns-clause-quiet : goal.returns-clause-quiet
returns-clause-quiet g c =
    subst IsQuiet (sym (c.made_of.ensures.journal ∙ c.in_ok-replayed.ensures.journal))
    (journal-quiet c.args.script.now c.in_ok-ended.ended.journal
    (c.valid_script_law.ensures c.args.script.now c.requires.script)
    c.in_ok-ended.ensures.ended.lawful c.in_ok-ended.ensures.quiet)

pub returns-clause-text : goal.returns-clause-text
returns-clause-text g c =
    c.made_of.ensures.text ∙ c.in_ok-replayed.ensures.text
    ∙ ap (λ (j : Journal). canonical_text (records_of c.args.script.now j))
    (sym (c.made_of.ensures.journal ∙ c.in_ok-replayed.ensures.journal))
