use Rattle.std.proofs.Common.{◌≡◌, take}
use Rattle.std.specs.Prelude.{sum_by}
use Rattle.cal_script.specs.Shapes.{greatest, own_words}
use Rattle.cal_script.proofs.shapes.most_own_words.Given as goal

-- those of the threads so far
abbrev pub invariant-loop-lines : goal.invariant-loop-lines
invariant-loop-lines l =
    l.most ≡ greatest (sum_by (own_words l.script)) (take l.lines-index l.script.threads)
