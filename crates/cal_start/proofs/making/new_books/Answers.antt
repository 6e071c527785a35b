use Rattle.std.proofs.Common.{◌+◌, List, [], ◌∷◌, ◌++◌, length, take, sym, ap, subst, arith}
use Rattle.cal_replay.specs.Flushing.{BookOf, BookView, SeatOf}
use Rattle.cal_start.proofs.ManyBooks.{books-push}
use Rattle.cal_start.proofs.PlacedSeats.{seats-push}
use Rattle.cal_start.specs.FirstSeats.{AreFirstSeats, IsFirstSeat}
use Rattle.cal_start.specs.Runs.{AreBooks}
use Rattle.cal_start.proofs.making.new_books.Goals as goal

pub loop-shape-preserved : goal.loop-shape-preserved
loop-shape-preserved c =
    let i = c.loop-shape.shape-index in
    let shapes = c.args.shapes.now in
    let books = c.loop-shape.books.items in
    let book = c.in_ok-book.book in
    let seat = c.in_ok-book.ensures.seat in
    let made = c.in_ok-book.ensures.made in
    record {
      books = subst (λ (xs : List BookOf). AreBooks c.args.threads (take (i + 1) shapes) xs)
          (sym c.in_ok-push.ensures.items)
          (books-push c.args.threads shapes i books book c.shape-item.result
          c.loop-shape.invariant.books (omega arith) c.shape-item.is made.0 made.1);
      first = subst (λ (xs : List BookOf). AreFirstSeats 0 xs c.push-in-loop-shape.new.self.items)
          (sym c.in_ok-push.ensures.items)
          (subst (λ (ys : List SeatOf). AreFirstSeats 0 (books ++ book ∷ []) ys)
          (sym c.in_ok-push-2.ensures.items)
          (seats-push (IsFirstSeat 0) books c.loop-shape.seats.items book c.in_ok-book.seat
          c.loop-shape.invariant.first (record {
            seat_is = seat.0;
            first = ap (λ (v : BookView). v.thread) seat.1;
            others = ap (λ (v : BookView). length v.others) seat.1;
          })));
    }
