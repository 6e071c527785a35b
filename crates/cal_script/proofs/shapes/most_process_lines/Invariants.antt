use Rattle.std.proofs.Common.{◌≡◌, take}
use Rattle.cal_script.specs.Shapes.{greatest, process_lines}
use Rattle.cal_script.proofs.shapes.most_process_lines.Given as goal

-- those of the threads so far
abbrev pub invariant-loop-lines : goal.invariant-loop-lines
invariant-loop-lines l =
    l.most ≡ greatest (process_lines l.script) (take l.lines-index l.script.threads)
