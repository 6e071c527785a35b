use Rattle.std.proofs.Common.{◌≡◌, ap, ◌∙◌, sym, IfOk, Result, Ok, Err}
use Rattle.cal_records.specs.Records.{records_of}
use Rattle.cal_replayed.specs.declared.replaying.Replayed.{Replayed}
use Rattle.cal_script.specs.declared.journal.Journal.{Journal}
use Rattle.cal_script.specs.declared.script.Script.{Script}
use Rattle.cal_write.specs.CanonicalText.{canonical_text}
use Rattle.cal_replayed.proofs.replaying.replay_text.Goals as goal

-- the text by a journal is that by the journal beside it, which is the same one
by-own : {E : Type 0} (script : Script) (journal : Journal) (made : Result Replayed E)
    → IfOk made (λ r. r.journal ≡ journal)
    → IfOk made (λ r. r.text ≡ canonical_text (records_of script journal))
    → IfOk made (λ r. r.text ≡ canonical_text (records_of script r.journal))
by-own script journal (Ok r) same text =
    text ∙ ap (λ (j : Journal). canonical_text (records_of script j)) (sym same)
by-own script journal (Err e) same text = tt

pub returns-clause-text : goal.returns-clause-text
returns-clause-text g c = by-own c.args.script.now c.in_ok-ended.ended.journal
    c.write_ended.result c.write_ended.ensures.journal c.write_ended.ensures.text
