use Rattle.cal_keys.proofs.Reaching.{joined_path}
use Rattle.cal_keys.proofs.stepping.joined.Goals as goal

pub returns-clause-leads : goal.returns-clause-leads
returns-clause-leads c = λ one two h g.
    joined_path c.args.context.now c.reach_from.new.context one two c.in_ok-path.path c.args.other c.in_ok-both.both
    c.in_ok-path.ensures g (rw (← c.as_slice.ensures) (c.in_ok-both.ensures.leads one h))
