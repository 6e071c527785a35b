use Rattle.std.proofs.Common.{◌≡◌, Ok, refl, sym, ap, ◌∙◌}
use Rattle.cal_ql.proofs.Meanings.{means_or_reads}
use Rattle.cal_ql.specs.Clauses.{reading}
use Rattle.cal_call.specs.Words.{text_at}
use Rattle.cal_call.proofs.asking.asked_query.Goals as goal

pub returns-in-Ok-clause-asked : goal.returns-in-Ok-clause-asked
returns-in-Ok-clause-asked c = λ join.
    let query = c.in-Ok.query in
    let read : reading (text_at c.args.words.now c.args.q) ≡ Ok query =
    ap reading (sym c.text_at.ensures) ∙ (means_or_reads c.text_at.result.now query).0 c.in-Ok.ensures.meant in
    rw read refl
