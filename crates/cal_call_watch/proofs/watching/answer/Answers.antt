use Rattle.std.proofs.Common.{ℕ, List, subst}
use Rattle.std.specs.Result.{result_err}
use Rattle.std.proofs.lemmas.Result.{err_from_is_err_and}
use Rattle.cal_base.specs.Change.{change_of}
use Rattle.cal_call.specs.Ends.{Shows}
use Rattle.cal_call_watch.proofs.Shown.{shown_answers}
use Rattle.cal_call_watch.proofs.watching.answer.Goals as goal

-- the cause that reading gave
pub returns-in_err-text-clause-answers : goal.returns-in_err-text-clause-answers
returns-in_err-text-clause-answers g c =
    let gone = c.from_residual in
    let p = err_from_is_err_and gone.result gone.ensures.1 in
    rw (p.1, p.2) (c.in_err-text.ensures.caused _)

pub returns-clause-answers : goal.returns-clause-answers
returns-clause-answers g c =
    let source = g.S.Source in
    let sink = g.W.Sink in
    let input = change_of source.left source.faults c.args.input.now c.layout.new.input in
    let output = change_of sink.written sink.faults c.args.output.now c.show.new.output in
    let answer = result_err c.show.result in
    let shown = subst (λ (text : List ℕ). Shows text output answer) c.as_str.ensures c.show.ensures in
    shown_answers (record { trigger = c.args.name; query = c.args.query.now }) input output
    c.in_ok-text.text answer c.in_ok-text.ensures.read shown
