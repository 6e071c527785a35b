use Rattle.std.proofs.Common.{◌≡◌, ◌++◌, map, take, false}
use Rattle.cal_lawful.proofs.shape.push_lines.Given as goal

-- a row for each line so far
abbrev pub invariant-loop-place : goal.invariant-loop-place
invariant-loop-place l = l.starts.items ≡ l.fn.starts.items ++ map (λ _. false)
    (take l._place l.lines)
