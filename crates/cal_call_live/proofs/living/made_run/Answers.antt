use Rattle.std.proofs.Common.{refl}
use Rattle.std.proofs.lemmas.Result.{err_from_is_err_and}
use Rattle.cal_call.proofs.LeftClocks.{left_clocks, makes_run, ran_out_behind}
use Rattle.cal_call.specs.Refusals.{no_journal}
use Rattle.cal_call.specs.declared.words.RunText.TheVariants as run_text
use Rattle.cal_call_live.proofs.living.made_run.Goals as goal

-- the cause that reading gave
pub returns-in_err-script-clause-caused : goal.returns-in_err-script-clause-caused
returns-in_err-script-clause-caused g c =
    let gone = c.from_residual in
    let p = err_from_is_err_and gone.result gone.ensures.1 in
    rw (p.1, p.2) c.in_err-script.ensures.caused

pub returns-in_err-script-clause-asked : goal.returns-in_err-script-clause-asked
returns-in_err-script-clause-asked g c =
    let gone = c.from_residual in
    let p = err_from_is_err_and gone.result gone.ensures.1 in
    rw (p.1, p.2)
    (left_clocks g.K.Clock.given no_journal _ _ _ c.in_err-script.ensures.unwritten refl)

-- the text of the run of the script that was read
pub returns-in-Ok-clause-read : goal.returns-in-Ok-clause-read
returns-in-Ok-clause-read g c =
    makes_run run_text.Records c.args.command.real _ c.in_ok-script.script c.in-Ok.made.journal
    c.in-Ok.made.text c.in_ok-script.ensures.read
    (λ bytes means. record {
      means = means;
      lawful = c.in-Ok.ensures.lawful;
      clock = c.in-Ok.ensures.real;
    })
    c.in-Ok.ensures.text

-- memory ran out behind the reading
pub returns-clause-caused : goal.returns-clause-caused
returns-clause-caused g c = λ output.
    ran_out_behind run_text.Records c.args.command.real _ output no_journal _
    c.in_ok-script.ensures.read
