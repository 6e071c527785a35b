use Rattle.tests_thread.proofs.scripts.runnable.Goals as goal

pub returns : goal.returns
returns c =
    c.valid_script_law.ensures c.in_ok-script.script (c.args.text.now, c.in_ok-script.ensures)
