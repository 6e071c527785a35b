use Rattle.std.proofs.Common.{Some, sym, ap, ◌∙◌}
use Rattle.std.proofs.lemmas.Result.{err_from_is_err_and}
use Rattle.cal_line.proofs.Exits.{err-across}
use Rattle.cal_line.proofs.FieldSteps.{fields_of-IsFields, IsFields-fields_of}
use Rattle.cal_line.proofs.splitting.split_fields.Goals as goal

pub returns-in_err-fields-clause-none : goal.returns-in_err-fields-clause-none
returns-in_err-fields-clause-none c =
    let p = err_from_is_err_and c.from_residual.result c.from_residual.ensures.1 in
    rw (p.1, p.2) (λ bad fields whole.
    let none = c.in_err-fields.ensures.refused (err-across bad) in
    let some = fields_of-IsFields c.args.line.now fields whole in
    cc)

pub returns-clause-found : goal.returns-clause-found
returns-clause-found c =
    IsFields-fields_of c.args.line.now c.in_ok-copied_fields.field-0 (c.in_ok-fields.ensures.found ∙ ap Some (sym c.in_ok-copied_fields.ensures))

pub returns-clause-only : goal.returns-clause-only
returns-clause-only c = λ others whole.
    let read = fields_of-IsFields c.args.line.now others whole in
    let found = c.in_ok-fields.ensures.found in
    let copied = c.in_ok-copied_fields.ensures in
    cc
