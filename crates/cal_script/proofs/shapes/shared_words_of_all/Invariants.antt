use Rattle.std.proofs.Common.{◌≡◌, take}
use Rattle.std.specs.Prelude.{sum_by}
use Rattle.cal_script.specs.Shapes.{shared_words}
use Rattle.cal_script.proofs.shapes.shared_words_of_all.Given as goal

-- those of the threads so far
abbrev pub invariant-loop-lines : goal.invariant-loop-lines
invariant-loop-lines l =
    l.shared ≡ sum_by (sum_by (shared_words l.script)) (take l.lines-index l.script.threads)
