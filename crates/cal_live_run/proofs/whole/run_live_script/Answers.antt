use Rattle.std.proofs.Common.{◌≤◌, length, subst, sym}
use Rattle.cal_live_run.specs.Quiet.{IsQuiet}
use Rattle.cal_ran.specs.Ended.{IsEnded}
use Rattle.cal_script.specs.Reading.{IsValidScript}
use Rattle.cal_script.specs.declared.script.Script.{Script}
use Rattle.cal_live_run.proofs.whole.run_live_script.Goals as goal

pub new-requires : goal.new-requires
new-requires g c = c.valid_script_law.ensures c.args.script.now c.requires.script

pub run_by-requires-clause-valid : goal.run_by-requires-clause-valid
run_by-requires-clause-valid g c κs within =
    subst IsValidScript (sym c.in_ok-run.ensures.run.script_is) c.requires.script

pub run_by-requires-clause-clocks : goal.run_by-requires-clause-clocks
run_by-requires-clause-clocks g c κs within =
    subst (λ (s : Script). length s.threads ≤ length c.args.clocks.now.items)
    (sym c.in_ok-run.ensures.run.script_is) c.requires.clocks

pub returns-clause-ended : goal.returns-clause-ended
returns-clause-ended g c =
    subst (λ (s : Script). IsEnded s c.in_ok-ended.ended) c.in_ok-run.ensures.run.script_is
    c.in_ok-ended.ensures.ended

pub returns-clause-quiet : goal.returns-clause-quiet
returns-clause-quiet g c =
    subst (λ (s : Script). IsQuiet s c.in_ok-ended.ended.journal)
    c.in_ok-run.ensures.run.script_is c.in_ok-ended.ensures.quiet
