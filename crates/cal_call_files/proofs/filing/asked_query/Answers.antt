use Rattle.std.proofs.Common.{◌≡◌, Ok, Err, inr, refl, sym, ap, subst, ◌∙◌}
use Rattle.cal_ql.proofs.Meanings.{means_or_reads}
use Rattle.cal_ql.specs.Clauses.{reading}
use Rattle.cal_ql.specs.FirstFault.{HasFault, IsRefused}
use Rattle.cal_ql.specs.Tokens.{Fault}
use Rattle.cal_call.specs.Words.{text_at}
use Rattle.cal_call_files.proofs.filing.asked_query.Goals as goal

pub returns-in-Ok-clause-asked : goal.returns-in-Ok-clause-asked
returns-in-Ok-clause-asked c =
    let query = c.in-Ok.query in
    let read : reading (text_at c.args.words.now c.args.command.q) ≡ Ok query =
    ap reading (sym c.text_at.ensures)
    ∙ (means_or_reads c.text_at.result.now query).0 c.in-Ok.ensures.meant in
    rw read refl

pub returns-in-Err-BadQuery-clause-refused : goal.returns-in-Err-BadQuery-clause-refused
returns-in-Err-BadQuery-clause-refused c =
    let bad = c.in-Err-BadQuery in
    let found : Fault = record { place = bad.place; kind = bad.kind } in
    let fault : HasFault c.text_at.result.now found =
    subst (IsRefused c.text_at.result.now) bad.field-0-is bad.ensures.refused in
    let read : reading (text_at c.args.words.now c.args.command.q) ≡ Err found =
    ap reading (sym c.text_at.ensures) ∙ fault in
    inr (found, rw read refl, refl)
