use Rattle.std.proofs.Common.{◌≡◌, ◌≤◌, ◌-◌, ◌++◌}
use Rattle.cal_gen.specs.Generated.{lines_from}
use Rattle.cal_gen.proofs.generating.push_lines.Given as goal

-- the lines that are left make the text whole
abbrev pub invariant-loop : goal.invariant-loop
invariant-loop l =
    let left = lines_from (l.lines - l.counter) (record { x = l.draws.x; depth = l.depth }) in
    let whole = lines_from l.lines (record { x = l.fn.draws.x; depth = 0 }) in
    (l.depth ≤ 32) × (l.text ++ left.text ≡ l.fn.text ++ whole.text) × (left.x ≡ whole.x)
