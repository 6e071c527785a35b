use Rattle.std.proofs.Common.{◌∙◌, [], sym, ap, append-nil, arith, drop}
use Rattle.std.proofs.Math.Seq.{drop-length}
use Rattle.cal_book.specs.Seats.{view}
use Rattle.cal_closing.proofs.Joins.{last-seat, told-all, told-more}
use Rattle.cal_closing.proofs.book.join_seats.Goals as goal

pub loop-seat-init : goal.loop-seat-init
loop-seat-init c = record {
  seat = c.requires.seat;
  first = c.requires.first;
  told = record {
    gone = [];
    whole = sym (append-nil c.args.seats.items);
    long = c.requires.all;
    told = ap (λ n. drop n (view c.args.first.now).others) (sym c.requires.all)
        ∙ drop-length (view c.args.first.now).others;
  };
}

pub join-requires-clause-seats : goal.join-requires-clause-seats
join-requires-clause-seats c = (
  c.loop-seat.invariant.seat,
  (last-seat c.args.book.now c.args.seats.items c.loop-seat.seats.items c.pop.new.self.items
      c.in-Some.seat (view c.loop-seat.first) c.requires.seats c.loop-seat.invariant.told
      c.in-Some.ensures.items).seat_is,
)

pub loop-seat-preserved : goal.loop-seat-preserved
loop-seat-preserved c = record {
  seat = c.join.ensures.seat;
  first = ap (λ v. v.thread) c.join.ensures.joined ∙ c.loop-seat.invariant.first;
  told = told-more c.args.book.now c.args.seats.items c.loop-seat.seats.items
      c.pop.new.self.items c.in-Some.seat (view c.loop-seat.first) (view c.join.new.seat)
      c.requires.seats c.loop-seat.invariant.told c.in-Some.ensures.items c.join.ensures.joined;
}

pub returns-clause-told : goal.returns-clause-told
returns-clause-told c =
    let gone = c.in_default.ensures.cases.0 in
    let items = c.loop-seat.seats.ok in
    told-all c.args.seats.items c.loop-seat.seats.items (view c.loop-seat.first)
    (omega (arith, gone, items)) c.loop-seat.invariant.told
