use Rattle.std.proofs.Common.{take}
use Rattle.cal_start.specs.FirstSeats.{AreFirstSeats}
use Rattle.cal_start.specs.Runs.{AreBooks}
use Rattle.cal_start.proofs.making.new_books.Given as goal

-- those of the shapes so far are made, with their seats
abbrev pub invariant-loop-shape : goal.invariant-loop-shape
invariant-loop-shape l = record {
  books : AreBooks l.threads (take l.shape-index l.shapes) l.books.items;
  first : AreFirstSeats 0 l.books.items l.seats.items;
}
