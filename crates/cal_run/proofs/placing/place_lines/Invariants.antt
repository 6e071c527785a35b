use Rattle.std.proofs.Common.{◌≡◌, ◌+◌, ◌++◌, drop, map}
use Rattle.cal_run.specs.Plain.{placed_lines}
use Rattle.cal_run.proofs.PlainLemmas.{numbers_from, place}
use Rattle.cal_run.proofs.placing.place_lines.Given as goal

-- the lines that are left make the thread's part whole
abbrev pub invariant-loop-place : goal.invariant-loop-place
invariant-loop-place l = record {
  so_far : l.history
      ++ map (place l.thread) (numbers_from l.script (l.place + 1) (drop l.place l.lines))
      ≡ l.fn.history ++ placed_lines l.script (l.thread, l.lines);
}
