use Rattle.cal_call.proofs.threads.run_to_journal.Goals as goal

pub lawful_refused-requires-clause-runnable : goal.lawful_refused-requires-clause-runnable
lawful_refused-requires-clause-runnable g c =
    c.valid_script_law.ensures c.args.script.now c.requires.script
