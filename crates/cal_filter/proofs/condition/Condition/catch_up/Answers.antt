use Rattle.std.proofs.Common.{◌≡◌, refl}
use Rattle.cal_filter.specs.Known.{Knows, KnowsAll, sought}
use Rattle.cal_filter.specs.Replaced.{ConditionCatchesUp}
use Rattle.cal_filter.specs.declared.condition.Condition.{Condition}
use Rattle.cal_filter.proofs.ReadyLemmas.{condition_catches_up, on_both}
use Rattle.cal_filter.proofs.condition.Condition.catch_up.Goals as goal

pub returns : goal.returns
returns c =
    let t = c.args.context.now in
    let old = c.args.self.now in
    let new : Condition = record { negated = old.negated; seeker = c.catch_up.new.self } in
    on_both (Knows t old.seeker → KnowsAll t new.seeker) (sought new.seeker ≡ sought old.seeker)
    (ConditionCatchesUp t old new) c.catch_up.result
    (λ knows same. condition_catches_up t old new refl same knows) c.catch_up.ensures.knows
    c.catch_up.ensures.same
