use Rattle.std.proofs.Common.{◌∙◌, arith}
use Rattle.std.proofs.lemmas.List.{length-set}
use Rattle.cal_keeping.proofs.BookHands.{account-other, each-seat, handed, in-books, in-seats}
use Rattle.cal_keeping.proofs.BookHands.{may-flush}
use Rattle.cal_keeping.proofs.book_hand.BookHandPartHand.flush.Goals as goal

pub bounds-books-place : goal.bounds-books-place
bounds-books-place c = in-books c.args.self.now c.args.channel c.args.kept.now c.requires

pub index_mut-requires : goal.index_mut-requires
index_mut-requires c =
    let less = in-seats c.args.self.now c.args.channel c.args.kept.now c.requires in
    let long = c.args.self.now.seats.ok.0 in
    omega (arith, less, long)

pub flush-requires : goal.flush-requires
flush-requires c =
    may-flush c.args.self.now c.args.channel c.args.kept.now c.requires
    c.index-books-place.result c.index_mut.result.now c.index-books-place.is
    c.index_mut.ensures.value

pub returns-clause-takes : goal.returns-clause-takes
returns-clause-takes c thread shapes at =
    let seats = c.args.self.now.seats.items in
    let after = c.flush.new.seat in
    let e = c.in_ok-reply.ensures in
    record {
      many = length-set seats c.args.channel after ∙ at.many;
      shapes_are = at.shapes_are;
      each = each-seat c.args.self.now c.args.channel c.args.kept.now c.requires
          c.index-books-place.result c.index_mut.result.now c.index-books-place.is
          c.index_mut.ensures.value after c.flush.new.channel c.in_ok-reply.reply e.seat
          (e.flushed c.requires.part c.requires.part_is) thread shapes at;
    }

pub returns-clause-handed : goal.returns-clause-handed
returns-clause-handed c thread shapes part at part_is =
    handed c.args.self.now c.args.channel c.args.kept.now c.requires
    c.index-books-place.result c.index_mut.result.now c.index-books-place.is
    c.index_mut.ensures.value c.flush.new.seat c.flush.new.channel c.in_ok-reply.reply thread
    shapes part at (c.in_ok-reply.ensures.flushed part part_is)

pub returns-clause-others : goal.returns-clause-others
returns-clause-others c other away =
    account-other c.args.self.now.seats.items c.args.channel c.flush.new.seat other away
