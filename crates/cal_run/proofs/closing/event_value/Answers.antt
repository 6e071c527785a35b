use Rattle.std.proofs.Common.{ap, sym, subst}
use Rattle.cal_run.proofs.ServiceLemmas.{opened-shown}
use Rattle.cal_run.specs.Adding.{IsEventValue}
use Rattle.cal_run.specs.Held.{IsOpened}
use Rattle.cal_run.specs.Snapshots.{is_end, value_on}
use Rattle.cal_run.specs.declared.sink.EventValue.TheVariants as event_value
use Rattle.cal_run.proofs.closing.event_value.Goals as goal

pub returns-in-Begin : goal.returns-in-Begin
returns-in-Begin g c = λ b is.
    let script = c.args.script.now in
    let op = c.args.op in
    subst (λ code. IsEventValue script.values (event_value.Opened op.value)
    (value_on script b code op)) (sym c.in-Begin.is)
    (opened-shown script op.value
    (subst (λ code. IsOpened script code op.value) c.in-Begin.is c.requires.places.value))

pub returns-in-Set : goal.returns-in-Set
returns-in-Set g c = λ b is.
    let script = c.args.script.now in
    let op = c.args.op in
    subst (λ code. IsEventValue script.values (event_value.Opened op.value)
    (value_on script b code op)) (sym c.in-Set.is)
    (opened-shown script op.value
    (subst (λ code. IsOpened script code op.value) c.in-Set.is c.requires.places.value))

pub returns-in-End : goal.returns-in-End
returns-in-End g c = λ b is.
    subst (λ code. IsEventValue c.args.script.now.values c.closed_value.result
    (value_on c.args.script.now b code c.args.op)) (sym c.in-End.is) (c.closed_value.ensures b is)

pub closed_value-requires-clause-asked : goal.closed_value-requires-clause-asked
closed_value-requires-clause-asked g c = c.requires.asked (ap is_end c.in-End.is)
