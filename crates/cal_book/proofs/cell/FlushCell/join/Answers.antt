use Rattle.std.proofs.Common.{ap, ◌∙◌, arith}
use Rattle.cal_book.proofs.Seats.{allows_join}
use Rattle.cal_book.proofs.cell.FlushCell.join.Goals as goal

pub join_seat-requires : goal.join_seat-requires
join_seat-requires g c =
    let cell = c.args.self.now in
    let words = cell.one_word in
    let seat = c.args.seat.now.seat in
    let other = c.into_seat.result in
    let is = c.into_seat.ensures.seat in (
      c.requires.seats.0.table,
      ap (λ s. s.table_id) is ∙ c.requires.seats.1.table,
      c.into_seat.ensures.bare,
      omega arith,
      allows_join g.T.Merging cell.table.shared.key seat.id seat.me.0 other.id other.me.0
          c.requires.seats.0.shape c.requires.first (ap (λ s. s.me.0.shape) is ∙ c.requires.seats.1.shape)
          c.into_seat.ensures.idle,
    )
