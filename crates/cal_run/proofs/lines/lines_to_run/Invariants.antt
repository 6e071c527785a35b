use Rattle.std.proofs.Common.{◌≡◌, ℕ, ◌+◌, ◌<◌, ◌≤◌, false, length, get_or}
use Rattle.cal_run.specs.Lines.{takes}
use Rattle.cal_script.specs.declared.script.Line.{Line}
use Rattle.cal_run.proofs.lines.lines_to_run.Given as goal

-- the channel takes none of the last lines so far
abbrev pub invariant-loop-back : goal.invariant-loop-back
invariant-loop-back l = (place : ℕ) (d : Line) → length l.lines ≤ place + l.back
    → place < length l.lines → takes l.script l.channel (get_or l.lines place d) ≡ false
