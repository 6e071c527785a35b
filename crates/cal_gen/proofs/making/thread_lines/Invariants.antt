use Rattle.std.proofs.Common.{◌≡◌, ◌≤◌, ◌+◌, ◌-◌, ◌++◌, length}
use Rattle.cal_gen.specs.Steps.{last_draw, next_lines}
use Rattle.cal_gen.proofs.making.thread_lines.Given as goal

-- the lines that are left make the lists whole
abbrev pub invariant-loop : goal.invariant-loop
invariant-loop l =
    let left = next_lines (l.count - l.counter) l.opened l.draws.x l.depth in
    let whole = next_lines l.count l.fn.opened l.fn.draws.x 0 in
    record {
      within : l.depth ≤ 32;
      few : length l.opened ≤ length l.fn.opened + l.counter;
      lines : l.lines ++ left.lines ≡ whole.lines;
      values : l.opened ++ left.values ≡ l.fn.opened ++ whole.values;
      draws : last_draw (l.count - l.counter) l.draws.x l.depth ≡ last_draw l.count l.fn.draws.x 0;
    }
