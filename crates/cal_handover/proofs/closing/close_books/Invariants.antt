use Rattle.std.proofs.Common.{reverse, vec_len}
use Rattle.cal_handover.proofs.LeftBooks.{AreLeft}
use Rattle.cal_channel.specs.Places.{lists_of}
use Rattle.cal_handover.proofs.closing.close_books.Given as goal

-- the books behind those that are left are closed
abbrev pub invariant-loop-book : goal.invariant-loop-book
invariant-loop-book l = AreLeft l.fn.books.items l.fn.firsts.items (lists_of l.fn.seats.items)
    (lists_of l.fn.channels) l.books.items l.firsts.items (lists_of l.seats.items)
    (lists_of l.channels) (lists_of (reverse l.tables.items))

abbrev pub decreases-loop-book : goal.decreases-loop-book
decreases-loop-book l = vec_len l.books
