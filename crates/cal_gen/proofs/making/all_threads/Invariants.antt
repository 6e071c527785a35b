use Rattle.std.proofs.Common.{◌≡◌, ◌≤◌, ◌+◌, ◌-◌, ◌*◌, ◌++◌, length}
use Rattle.cal_gen.specs.Steps.{next_threads}
use Rattle.cal_gen.proofs.making.all_threads.Given as goal

-- the threads that are left make the lists whole
abbrev pub invariant-loop : goal.invariant-loop
invariant-loop l =
    let left = next_threads (l.threads - l.counter) l.lines l.opened l.draws.x in
    let whole = next_threads l.threads l.lines l.fn.opened l.seed in
    record {
      few : length l.opened ≤ length l.fn.opened + l.counter * l.lines;
      threads : l.all ++ left.threads ≡ whole.threads;
      values : l.opened ++ left.values ≡ l.fn.opened ++ whole.values;
    }
