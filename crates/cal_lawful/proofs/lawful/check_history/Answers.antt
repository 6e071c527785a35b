use Rattle.std.proofs.Common.{refl}
use Rattle.cal_journal.specs.declared.kind.JournalKind.TheVariants as kind
use Rattle.cal_lawful.proofs.RowLemmas.{ends-refusal, handed-on}
use Rattle.cal_lawful.specs.Checking.{IsRefusalOf}
use Rattle.cal_lawful.proofs.lawful.check_history.Goals as goal

pub returns-in_err-check_shape-clause-fault : goal.returns-in_err-check_shape-clause-fault
returns-in_err-check_shape-clause-fault c =
    handed-on (IsRefusalOf c.args.script.now c.args.text.now) c.from_residual.result _
    c.from_residual.ensures.1
    (ends-refusal c.args.script.now c.args.text.now kind.Shape 0 refl tt
    c.in_err-check_shape.field-0.0 c.in_err-check_shape.ensures.broken)

pub returns-in_err-check_known-clause-fault : goal.returns-in_err-check_known-clause-fault
returns-in_err-check_known-clause-fault c =
    handed-on (IsRefusalOf c.args.script.now c.args.text.now)
    c.from_residual-in_err-check_known.result _
    c.from_residual-in_err-check_known.ensures.1
    (ends-refusal c.args.script.now c.args.text.now kind.OpStranger 1 refl
    (c.in_ok-check_shape.ensures.held, tt)
    c.in_err-check_known.field-0.0 c.in_err-check_known.ensures.broken)

pub returns-in_err-check_order-clause-fault : goal.returns-in_err-check_order-clause-fault
returns-in_err-check_order-clause-fault c =
    handed-on (IsRefusalOf c.args.script.now c.args.text.now)
    c.from_residual-in_err-check_order.result _
    c.from_residual-in_err-check_order.ensures.1
    (ends-refusal c.args.script.now c.args.text.now kind.OpOrder 2 refl
    (c.in_ok-check_shape.ensures.held, (c.in_ok-check_known.ensures.held, tt))
    c.in_err-check_order.field-0.0 c.in_err-check_order.ensures.broken)
