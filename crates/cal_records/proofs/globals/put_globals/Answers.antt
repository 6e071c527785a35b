use Rattle.cal_records.proofs.GlobalLemmas.{means-globals}
use Rattle.cal_records.proofs.globals.put_globals.Goals as goal

pub returns-clause-means : goal.returns-clause-means
returns-clause-means c =
    means-globals c.intern_record.new.context c.intern_record.new.snapshot c.args.entries.now _
    (λ i. record { paths = c.in_ok-referred.ensures i; imms = c.in_ok-valued.ensures i })
    c.in_ok-intern_record.ensures.means
