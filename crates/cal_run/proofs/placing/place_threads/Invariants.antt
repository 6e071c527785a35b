use Rattle.std.proofs.Common.{◌≡◌, ◌++◌, drop}
use Rattle.std.specs.Prelude.{flat_map}
use Rattle.std.specs.List.{enumerate_from}
use Rattle.cal_run.specs.Plain.{placed_lines, plain_history}
use Rattle.cal_run.proofs.placing.place_threads.Given as goal

-- the threads that are left make the history whole
abbrev pub invariant-loop-number : goal.invariant-loop-number
invariant-loop-number l = record {
  so_far : l.history ++ flat_map (placed_lines l.script)
      (enumerate_from l.number (drop l.number l.script.threads))
      ≡ plain_history l.script;
}
