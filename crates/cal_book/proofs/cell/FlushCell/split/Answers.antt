use Rattle.std.proofs.Common.{arith}
use Rattle.cal_book.proofs.Seats.{allows_split}
use Rattle.cal_book.proofs.cell.FlushCell.split.Goals as goal

pub split_seat-new-requires : goal.split_seat-new-requires
split_seat-new-requires g c =
    let cell = c.args.self.now in
    let words = cell.one_word in
    let seat = c.args.seat.now.seat in (
      c.requires.seat.table,
      omega arith,
      allows_split g.T.Merging cell.table.shared.key cell.threads seat.id seat.me.0 cell.few
          c.requires.seat.shape c.requires.first c.requires.some_left,
    )
