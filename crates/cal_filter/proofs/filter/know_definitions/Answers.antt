use Rattle.std.proofs.Common.{arith}
use Rattle.cal_filter.specs.Replaced.{DefinitionCatchesUp}
use Rattle.cal_filter.proofs.ReadyLemmas.{all_catch_up}
use Rattle.cal_filter.proofs.Zips.{replace_all, replace_none}
use Rattle.cal_filter.proofs.filter.know_definitions.Goals as goal

pub returns-then-definitions-eq0-clause-ready : goal.returns-then-definitions-eq0-clause-ready
returns-then-definitions-eq0-clause-ready c = λ knows named.
    let old = c.args.definitions.now in
    replace_all (DefinitionCatchesUp c.args.context.now) old old 0
    (replace_none (DefinitionCatchesUp c.args.context.now) old) (omega arith)

pub returns-clause-knows : goal.returns-clause-knows
returns-clause-knows c = λ knows. (c.in_ok-know_attributes.ensures.knows knows).knows

pub returns-clause-ready : goal.returns-clause-ready
returns-clause-ready c = λ knows named.
    all_catch_up c.args.context.now c.know_attributes.new.self c.args.definitions.now
    c.catch_up_definitions.new.definitions (c.in_ok-know_attributes.ensures.knows knows)
    (rw c.in_ok-know_attributes.ensures.names named) c.in_ok-catch_up_definitions.ensures
