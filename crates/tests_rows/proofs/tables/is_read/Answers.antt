use Rattle.std.proofs.Common.{rules}
use Rattle.cal_once.specs.Seats.{view}
use Rattle.cal_once.proofs.Seen.{was_seen_from}
use Rattle.tests_rows.proofs.tables.is_read.Goals as goal

pub word-requires-clause-known : goal.word-requires-clause-known
word-requires-clause-known g =
    let size = g.size-size.ensures.size in
    (search rules, was_seen_from (view g.size-size.new.seat).seen 1 size.0 size.1)
