use Rattle.std.proofs.Common.{◌≡◌, false, rules, ◌∙◌}
use Rattle.std.specs.Prelude.{is_some}
use Rattle.std.proofs.lemmas.Result.{err_from_is_err_and}
use Rattle.cal_query.proofs.Streamings.{about_this, falls_last, finishes, refused_at_end}
use Rattle.cal_query.proofs.streaming.Streaming.finish.Goals as goal

pub returns-in-Some-clause-refused : goal.returns-in-Some-clause-refused
returns-in-Some-clause-refused g c = λ bytes has.
    falls_last g.T.Taker.has_taken c.args.self.now.fault c.args.self.now c.in-Some.bad bytes
    c.in-Some.is has

pub returns-in_err-finish-clause-refused : goal.returns-in_err-finish-clause-refused
returns-in_err-finish-clause-refused g c =
    let none : is_some c.args.self.now.fault ≡ false = search rules in
    let p = err_from_is_err_and c.from_residual.result c.from_residual.ensures.1 in
    rw (p.1, p.2)
    (λ bytes has.
    refused_at_end g.T.Taker.has_taken c.args.self.now.fault c.args.self.now _ bytes none
    c.in_err-finish.ensures.fault has)

pub returns-clause-read : goal.returns-clause-read
returns-clause-read g c = λ bytes has.
    let none : is_some c.args.self.now.fault ≡ false = search rules in
    finishes g.T.Taker.has_taken c.args.self.now.fault c.args.self.now _ bytes none
    c.in_ok-finish.ensures.within c.in_ok-finish.ensures.globals c.in_ok-finish.ensures.taken has

pub returns-clause-about : goal.returns-clause-about
returns-clause-about g c = λ what is.
    let none : is_some c.args.self.now.fault ≡ false = search rules in
    c.in_ok-finish.ensures.about ∙ about_this c.args.self.now.fault none is
