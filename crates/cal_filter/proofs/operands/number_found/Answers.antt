use Rattle.std.proofs.Common.{ap, sym, ◌∙◌, option_and_then}
use Rattle.cal_context.specs.Snapshots.{meaning}
use Rattle.cal_filter.specs.Known.{sought}
use Rattle.cal_filter.specs.Numbers.{number_in}
use Rattle.cal_filter.proofs.OperandLemmas.{sought_small}
use Rattle.cal_filter.proofs.operands.number_found.Goals as goal

pub returns-in-Some-clause-found : goal.returns-in-Some-clause-found
returns-in-Some-clause-found c = λ k small.
    let is = c.in-Some.ensures k in
    let fits = sought_small (sought c.args.seeker.now)
    (meaning c.args.context.now c.args.snapshot.now) small c.in-Some.value.now (sym is) in
    c.small_number.ensures.number fits ∙ ap (option_and_then number_in) is
