use Rattle.std.proofs.lemmas.Result.{err_from_is_err_and}
use Rattle.std.proofs.Common.{◌∙◌, sym}
use Rattle.cal_ql.specs.Steps.{tokens_ahead}
use Rattle.cal_ql.specs.Tokens.{tokens_of}
use Rattle.cal_ql.proofs.ClauseLists.{Remains-all, Remains-fails}
use Rattle.cal_ql.proofs.clauses.clauses_of.Goals as goal

pub loop-ahead-init : goal.loop-ahead-init
loop-ahead-init c = rw (c.new-clauses.ensures, c.new-ahead.ensures) (Remains-all (tokens_of c.args.text.now))

pub returns-in_err-ahead : goal.returns-in_err-ahead
returns-in_err-ahead c =
    let p = err_from_is_err_and c.from_residual.result c.from_residual.ensures.1 in
    rw (p.1, p.2) (Remains-fails c.in_err-ahead.field-0.0 c.loop-ahead.clauses (tokens_ahead c.loop-ahead.ahead) _ (sym c.is_at_end.ensures ∙ c.loop-ahead-test.true) c.in_err-ahead.ensures.read c.loop-ahead.invariant)
