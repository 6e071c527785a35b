use Rattle.cal_filter.proofs.ReadyLemmas.{ready_is_right}
use Rattle.cal_filter.proofs.filter.Filter.keeps.Goals as goal

pub returns-clause-stays : goal.returns-clause-stays
returns-clause-stays c = λ q h.
    ready_is_right c.args.context.now q c.catch_up.new.self (c.in_ok-catch_up.ensures q h)
