use Rattle.cal_call.proofs.Fronts.{both_valid}
use Rattle.cal_call.proofs.serial.read_bytes.Goals as goal

pub returns-in-Ok-clause-runnable : goal.returns-in-Ok-clause-runnable
returns-in-Ok-clause-runnable c =
    c.valid_script_law.ensures c.in-Ok.both.0 (both_valid c.args.bytes.now c.in-Ok.both c.in-Ok.ensures.both)
