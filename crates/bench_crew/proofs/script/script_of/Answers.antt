use Rattle.bench_crew.proofs.script.script_of.Goals as goal

pub returns-clause-valid : goal.returns-clause-valid
returns-clause-valid c = (c.args.bytes.now, c.in_ok-script.ensures.read)

pub returns-clause-runnable : goal.returns-clause-runnable
returns-clause-runnable c =
    c.valid_script_law.ensures c.in_ok-script.script (c.args.bytes.now, c.in_ok-script.ensures.read)
