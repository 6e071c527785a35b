use Rattle.cal_records.proofs.ForkLemmas.{same-attribute}
use Rattle.cal_records.proofs.comparing.compare_attributes.Goals as goal

pub returns-then-one-other : goal.returns-then-one-other
returns-then-one-other c =
    same-attribute c.args.context.now c.args.one c.args.other c.if-one-other.true
