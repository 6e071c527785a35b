use Rattle.std.proofs.Common.{ap, sym, ◌∙◌}
use Rattle.std.specs.Option.{option_copied}
use Rattle.std.specs.Prelude.{unwrap_or, pos}
use Rattle.cal_agg.specs.declared.num.Num.TheVariants.{Whole}
use Rattle.cal_parts.specs.Counters.{record_of, sought_in}
use Rattle.cal_parts.proofs.Counting.{unweighed, weighed}
use Rattle.cal_parts.proofs.counter.weight.Goals as goal

pub returns-in-Some : goal.returns-in-Some
returns-in-Some c = λ ready seeks.
    c.unwrap_or.ensures
    ∙ ap (λ o. unwrap_or o (Whole (pos 1))) (c.at.ensures ready)
    ∙ weighed (sought_in c.args.found.now) c.args.places.now c.in-Some.place.now (record_of c.args.found.now)
    (sym c.first.ensures.value ∙ ap option_copied c.in-Some.is) seeks

pub returns-in-None : goal.returns-in-None
returns-in-None c = λ ready seeks.
    absurd (unweighed (sought_in c.args.found.now) c.args.places.now (sym c.first.ensures.value ∙ ap option_copied c.in-None.is) seeks)
