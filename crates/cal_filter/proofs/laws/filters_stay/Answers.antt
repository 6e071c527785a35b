use Rattle.cal_filter.proofs.Growing.{filter-Grows}
use Rattle.cal_filter.proofs.laws.filters_stay.Goals as goal

pub returns : goal.returns
returns c = λ old new q f grows is. filter-Grows grows q f is
