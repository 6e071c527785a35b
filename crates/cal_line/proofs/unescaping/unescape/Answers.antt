use Rattle.std.proofs.Common.{Some, refl, ◌∙◌, sym, ap}
use Rattle.std.proofs.lemmas.Result.{err_from_is_err_and}
use Rattle.cal_line.proofs.Exits.{err-across}
use Rattle.cal_line.proofs.TokenSteps.{spelled_text-Spells, Spells-spelled_text}
use Rattle.cal_line.proofs.unescaping.unescape.Goals as goal

pub returns-in_err-append_spelled-clause-none : goal.returns-in_err-append_spelled-clause-none
returns-in_err-append_spelled-clause-none c =
    let p = err_from_is_err_and c.from_residual.result c.from_residual.ensures.1 in
    rw (p.1, p.2) (λ bad other spells.
    let none = c.in_err-append_spelled.ensures.bad (err-across bad) in
    let some = spelled_text-Spells c.args.text.now other spells in
    cc)

pub returns-clause-found : goal.returns-clause-found
returns-clause-found c =
    Spells-spelled_text c.args.text.now c.append_spelled.new.out (c.in_ok-append_spelled.ensures.spelled ∙ ap Some (sym (c.in_ok-append_spelled.ensures.appended ∙ rw c.new-spelled.ensures refl)))

pub returns-clause-only : goal.returns-clause-only
returns-clause-only c = λ other spells.
    let read = spelled_text-Spells c.args.text.now other spells in
    let spelled = c.in_ok-append_spelled.ensures.spelled in
    let appended = rw c.new-spelled.ensures at c.in_ok-append_spelled.ensures.appended in
    cc
