use Rattle.tests_world.proofs.scripts.runnable.Goals as goal

pub returns-clause-valid : goal.returns-clause-valid
returns-clause-valid c = (c.args.text.now, c.in_ok-script.ensures)

pub returns-clause-runnable : goal.returns-clause-runnable
returns-clause-runnable c =
    c.valid_script_law.ensures c.in_ok-script.script (c.args.text.now, c.in_ok-script.ensures)
