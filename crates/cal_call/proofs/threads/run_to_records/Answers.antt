use Rattle.std.proofs.Common.{◌∙◌, ap, sym}
use Rattle.cal_records.specs.Records.{records_of}
use Rattle.cal_write.specs.CanonicalText.{canonical_text}
use Rattle.cal_call.proofs.threads.run_to_records.Goals as goal

pub made_of-requires-clause-runnable : goal.made_of-requires-clause-runnable
made_of-requires-clause-runnable g c =
    c.valid_script_law.ensures c.args.script.now c.requires.script

pub returns-in-Ok-clause-text : goal.returns-in-Ok-clause-text
returns-in-Ok-clause-text g c =
    c.made_of.ensures.text ∙ c.in-Ok.ensures.text
    ∙ ap (λ journal. canonical_text (records_of c.args.script.now journal))
    (sym c.made_of.ensures.journal)
