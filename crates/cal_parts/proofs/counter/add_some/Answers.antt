use Rattle.std.proofs.Common.{sym, ap, ◌∙◌}
use Rattle.std.specs.Option.{option_to_list}
use Rattle.cal_parts.specs.PartLists.{merged_at}
use Rattle.cal_parts.specs.Parts.{part_over}
use Rattle.cal_parts.proofs.PartLists.{at_none}
use Rattle.cal_parts.proofs.counter.add_some.Goals as goal

pub returns-in-None-clause-added : goal.returns-in-None-clause-added
returns-in-None-clause-added c =
    sym (ap (λ o. merged_at c.args.parts.now c.args.place (part_over c.args.kernel (option_to_list o))) c.in-None.is
    ∙ at_none c.args.kernel c.args.parts.now c.args.place)
