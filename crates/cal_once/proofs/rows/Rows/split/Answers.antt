use Rattle.std.proofs.Common.{arith}
use Rattle.cal_once.proofs.Seats.{allows_split}
use Rattle.cal_once.proofs.rows.Rows.split.Goals as goal

pub split_seat-new-requires : goal.split_seat-new-requires
split_seat-new-requires g c =
    let rows = c.args.self.now in
    let plan = rows.table.shared.key in (
      c.requires.seat.table,
      omega arith,
      allows_split g.S.RecSort plan c.args.seat.now.seat.id c.args.seat.now.seat.me.0 c.requires.seat.plan c.requires.first c.requires.some_left,
    )
