use Rattle.std.proofs.Common.{subst}
use Rattle.cal_value.specs.Reading.{IsSmall}
use Rattle.cal_engine.proofs.Gating.{small_child}
use Rattle.cal_engine.proofs.gate.has_small_entry.Goals as goal

pub returns-in-Some : goal.returns-in-Some
returns-in-Some c = λ small before.
    small_child c.args.context.now c.in-Some.link c.args.node c.in-Some.ensures.linked
    (subst IsSmall c.value_at.ensures (c.is_small.ensures.0 small)) before
