use Rattle.std.proofs.lemmas.Result.{err_from_is_err_and}
use Rattle.cal_base.specs.Change.{change_of}
use Rattle.cal_call.specs.Refusals.{no_journal}
use Rattle.cal_call.proofs.Serving.{cannot_use}
use Rattle.cal_call.proofs.serial.made_run.Goals as goal

-- the cause that the run gave
pub returns-in_err-made-clause-caused : goal.returns-in_err-made-clause-caused
returns-in_err-made-clause-caused g c =
    let gone = c.from_residual-in_err-made in
    let p = err_from_is_err_and gone.result gone.ensures.1 in
    let input = change_of g.S.Source.left g.S.Source.faults c.args.input.now c.read_input.new.input in
    let read = c.in_ok-script in
    rw (p.1, p.2)
    (λ output. cannot_use input read.script read.behind c.in_err-made.field-0.0 read.ensures.read
    c.in_err-made.ensures.fault output no_journal)
