use Rattle.std.proofs.Common.{rules}
use Rattle.std.proofs.lemmas.Result.{IfOk-weaker}
use Rattle.cal_gen.specs.Generated.{generated}
use Rattle.cal_call.proofs.summarizing.summary_lines.Goals as goal

pub lines_of-requires : goal.lines_of-requires
lines_of-requires g c =
    let text = generated c.args.seed c.args.threads c.args.lines in
    (search rules, c.valid_script_law.ensures c.in-Ok.script (text, c.in-Ok.ensures))

pub returns-in-Ok : goal.returns-in-Ok
returns-in-Ok g c =
    IfOk-weaker c.lines_of.result _ _ (λ lines is. (c.in-Ok.script, c.in-Ok.ensures, is))
    c.lines_of.ensures
