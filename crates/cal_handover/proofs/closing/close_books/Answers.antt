use Rattle.std.proofs.Common.{◌≡◌, ◌+◌, ◌++◌, ◌∙◌, [], ◌∷◌, List, drop, length, map, reverse, take}
use Rattle.std.proofs.Common.{ap, sym, arith, subst}
use Rattle.std.specs.List.{All}
use Rattle.std.proofs.lemmas.List.{reverse-append, take_at}
use Rattle.cal_handover.proofs.LeftBooks.{AreLeft, all-closed, all-emptied, all-left}
use Rattle.cal_handover.proofs.LeftBooks.{channels-there, may-close, one-closed, seats-last}
use Rattle.cal_handover.proofs.OnePlace.{length-lists}
use Rattle.cal_handover.specs.Closing.{AreClosed, IsClosed, MayClose}
use Rattle.cal_channel.specs.Places.{at_place, lists_of}
use Rattle.cal_handover.specs.Places.{tables_at}
use Rattle.cal_replay.specs.Flushing.{SeatOf}
use Rattle.cal_handover.proofs.closing.close_books.Goals as goal

pub loop-book-init : goal.loop-book-init
loop-book-init c = all-left c.args.books.items c.args.firsts.items (lists_of c.args.seats.items)
    (lists_of c.args.channels.now) c.requires (lists_of (reverse c.in_ok-tables.tables.items))
    (ap (λ tables. lists_of (reverse tables)) c.in_ok-tables.ensures.items)

pub close_book_at-requires-clause-last : goal.close_book_at-requires-clause-last
close_book_at-requires-clause-last c =
    let len = c.len-place.ensures in
    let ok = c.pop.new.self.ok in
    let at : c.len-place.result ≡ length c.pop.new.self.items = omega (arith, len, ok) in
    subst (λ seats. All (λ (own : List SeatOf). length own ≡ c.len-place.result + 1)
    (lists_of seats)) (sym c.as_mut_slice.ensures.value)
    (seats-last c.args.books.items c.args.firsts.items (lists_of c.args.seats.items)
    (lists_of c.args.channels.now) c.requires c.loop-book.books.items
    c.pop.new.self.items c.in-Some.book c.loop-book.firsts.items
    (lists_of c.loop-book.seats.items) (lists_of c.loop-book.channels)
    (lists_of (reverse c.loop-book.tables.items)) c.loop-book.invariant c.in-Some.ensures.items
    c.len-place.result at)

pub close_book_at-requires-clause-within : goal.close_book_at-requires-clause-within
close_book_at-requires-clause-within c =
    let len = c.len-place.ensures in
    let ok = c.pop.new.self.ok in
    let at : c.len-place.result ≡ length c.pop.new.self.items = omega (arith, len, ok) in
    channels-there c.args.books.items c.args.firsts.items (lists_of c.args.seats.items)
    (lists_of c.args.channels.now) c.requires c.loop-book.books.items
    c.pop.new.self.items c.in-Some.book c.loop-book.firsts.items
    (lists_of c.loop-book.seats.items) (lists_of c.loop-book.channels)
    (lists_of (reverse c.loop-book.tables.items)) c.loop-book.invariant c.in-Some.ensures.items
    c.len-place.result at

pub close_book_at-requires-clause-may : goal.close_book_at-requires-clause-may
close_book_at-requires-clause-may c =
    let len = c.len-place.ensures in
    let ok = c.pop.new.self.ok in
    let at : c.len-place.result ≡ length c.pop.new.self.items = omega (arith, len, ok) in
    subst (λ seats. MayClose c.in-Some.book c.remove-first.result
    (at_place c.len-place.result (lists_of seats)))
    (sym c.as_mut_slice.ensures.value)
    (may-close c.args.books.items c.args.firsts.items (lists_of c.args.seats.items)
    (lists_of c.args.channels.now) c.requires c.loop-book.books.items
    c.pop.new.self.items c.in-Some.book c.loop-book.firsts.items
    (lists_of c.loop-book.seats.items) (lists_of c.loop-book.channels)
    (lists_of (reverse c.loop-book.tables.items)) c.loop-book.invariant c.in-Some.ensures.items
    c.len-place.result at c.remove-first.result c.remove-first.ensures.value)

pub loop-book-preserved : goal.loop-book-preserved
loop-book-preserved c =
    let len = c.len-place.ensures in
    let ok = c.pop.new.self.ok in
    let at : c.len-place.result ≡ length c.pop.new.self.items = omega (arith, len, ok) in
    let was = c.loop-book.seats.items in
    let new = c.close_book_at.new.seats in
    let left = c.in_ok-own.ensures.seats
    ∙ ap (λ seats. map (take c.len-place.result) (lists_of seats)) c.as_mut_slice.ensures.value in
    let many = length-lists (take c.len-place.result) new was left in
    let ok = c.loop-book.seats.ok in
    let rest = drop (length new) was in
    let seats = take c.loop-book.seats.len (new ++ rest) in
    subst (λ tables. AreLeft c.args.books.items c.args.firsts.items
    (lists_of c.args.seats.items) (lists_of c.args.channels.now) c.pop.new.self.items
    c.remove-first.new.self.items (lists_of seats) (lists_of c.close_book_at.new.channels)
    (lists_of tables))
    (sym (ap reverse c.in_ok-push.ensures.items
    ∙ reverse-append c.loop-book.tables.items (c.in_ok-own.own ∷ [])))
    (one-closed c.args.books.items c.args.firsts.items (lists_of c.args.seats.items)
    (lists_of c.args.channels.now) c.requires c.loop-book.books.items
    c.pop.new.self.items c.in-Some.book c.loop-book.firsts.items
    (lists_of c.loop-book.seats.items) (lists_of c.loop-book.channels)
    (lists_of (reverse c.loop-book.tables.items)) c.loop-book.invariant c.in-Some.ensures.items
    c.len-place.result at c.remove-first.new.self.items (lists_of seats)
    (lists_of c.close_book_at.new.channels) c.in_ok-own.own.items c.remove-first.ensures.items
    (ap lists_of (take_at new rest c.loop-book.seats.len (omega (arith, many, ok))) ∙ left)
    c.in_ok-own.ensures.channels
    (subst (λ seats. IsClosed c.in-Some.book (at_place c.len-place.result (lists_of seats))
    (tables_at c.len-place.result (lists_of c.loop-book.channels)) c.in_ok-own.own.items)
    c.as_mut_slice.ensures.value c.in_ok-own.ensures.closed))

pub returns-clause-closed : goal.returns-clause-closed
returns-clause-closed c =
    let gone = c.in_default.ensures.cases.0 in
    let items = c.loop-book.books.ok in
    subst (λ tables. AreClosed c.args.books.items (lists_of c.args.seats.items)
    (lists_of c.args.channels.now) (lists_of tables))
    (sym c.reverse.ensures.items)
    (all-closed c.args.books.items c.args.firsts.items (lists_of c.args.seats.items)
    (lists_of c.args.channels.now) c.loop-book.books.items
    c.loop-book.firsts.items (lists_of c.loop-book.seats.items) (lists_of c.loop-book.channels)
    (lists_of (reverse c.loop-book.tables.items)) c.loop-book.invariant
    (omega (arith, gone, items)))

pub returns-clause-left : goal.returns-clause-left
returns-clause-left c =
    let gone = c.in_default.ensures.cases.0 in
    let items = c.loop-book.books.ok in
    all-emptied c.args.books.items c.args.firsts.items (lists_of c.args.seats.items)
    (lists_of c.args.channels.now) c.loop-book.books.items
    c.loop-book.firsts.items (lists_of c.loop-book.seats.items) (lists_of c.loop-book.channels)
    (lists_of (reverse c.loop-book.tables.items)) c.loop-book.invariant (omega (arith, gone, items))
