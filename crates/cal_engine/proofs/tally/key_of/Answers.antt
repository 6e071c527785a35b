use Rattle.std.proofs.Common.{sym, ◌∙◌}
use Rattle.cal_context.specs.Snapshots.{meaning}
use Rattle.cal_engine.proofs.Tallying.{key_found_by_names}
use Rattle.cal_engine.proofs.tally.key_of.Goals as goal

pub returns-clause-key : goal.returns-clause-key
returns-clause-key c = λ q by_name ready.
    key_found_by_names c.args.context.now c.args.own.now c.key_by_names.new.own q.group (meaning c.args.context.now c.args.snapshot.now)
    c.args.sieve.now c.in_ok-key.key (sym by_name ∙ c.if-not-by_name.false) ready c.in_ok-key.ensures.key
