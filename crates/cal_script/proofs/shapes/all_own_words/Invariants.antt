use Rattle.std.proofs.Common.{◌≡◌, take}
use Rattle.std.specs.Prelude.{sum_by}
use Rattle.cal_script.specs.Shapes.{own_words}
use Rattle.cal_script.proofs.shapes.all_own_words.Given as goal

-- those of the lines so far
abbrev pub invariant-loop-line : goal.invariant-loop-line
invariant-loop-line l = l.words ≡ sum_by (own_words l.script) (take l.line-index l.lines)
