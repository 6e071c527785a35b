use Rattle.std.proofs.Common.{◌∙◌, ap, sym}
use Rattle.cal_records.specs.Records.{records_of}
use Rattle.cal_write.specs.CanonicalText.{canonical_text}
use Rattle.cal_call.proofs.journal.lawful_one.Goals as goal

pub returns-in-Ok-clause-text : goal.returns-in-Ok-clause-text
returns-in-Ok-clause-text c =
    c.in-Ok.ensures.written.text
    ∙ ap (λ journal. canonical_text (records_of c.args.script journal)) (sym c.given.ensures)
