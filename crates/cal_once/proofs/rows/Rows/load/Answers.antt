use Rattle.std.proofs.Common.{refl, ap, ◌∙◌, arith}
use Rattle.cal_once.proofs.Moves.{allows_look}
use Rattle.cal_once.proofs.rows.Rows.load.Goals as goal

pub load-requires : goal.load-requires
load-requires g c =
    let rows = c.args.self.now in
    let long = rows.long in (
      c.requires.seat.table,
      omega arith,
      allows_look g.S.RecSort rows.table.shared.key _ rows.table.shared.table_id.slots c.args.seat.now.id c.args.place c.args.seat.now.me c.requires.seat.plan c.requires.place,
    )

pub returns-clause-seat : goal.returns-clause-seat
returns-clause-seat g c = record { table = c.load.ensures.0 ∙ c.requires.seat.table; plan = ap (λ m. m.0.plan) (c.load.ensures.2 c.args.place refl).view ∙ c.requires.seat.plan }
