use Rattle.std.proofs.Common.{arith}
use Rattle.tests_thread.proofs.ends.history_of.Goals as goal

pub join_thread-requires-2-clause-hired : goal.join_thread-requires-2-clause-hired
join_thread-requires-2-clause-hired c =
    let same = c.in_ok-do_lines.ensures.numbers.0 in
    let first = c.requires.first.1 in
    (2, c.join_thread.ensures.hired 2 c.requires.hired, omega (arith, same, first))

pub read_history-requires-clause-seat : goal.read_history-requires-clause-seat
read_history-requires-clause-seat c =
    (c.join_thread-2.ensures.hired 2 (c.join_thread.ensures.hired 2 c.requires.hired)).at_log
