use Rattle.cal_live_run.proofs.whole.run_live_script.Given as goal

-- the shapes are those of the run
abbrev pub ghosts-run_by : goal.ghosts-run_by
ghosts-run_by g a = record { shapes = a.run.shapes.items }
