use Rattle.std.proofs.Common.{◌+◌, ap, ◌∙◌, arith}
use Rattle.cal_once.specs.Seats.{plan_of}
use Rattle.cal_once.proofs.Stores.{allows_store}
use Rattle.cal_once.proofs.Within.{arena_word_inside}
use Rattle.cal_once.proofs.rows.Rows.store.Goals as goal

pub store-requires : goal.store-requires
store-requires g c =
    let rows = c.args.self.now in
    let plan = rows.table.shared.key in
    let start = c.requires.start in
    let room = c.requires.room in (
      c.requires.seat.table,
      arena_word_inside plan.shape rows.table.shared.table_id.words c.args.seat.now.me.0.number (c.args.start + c.args.k) rows.long c.requires.arena (omega arith),
      allows_store g.S.RecSort plan rows.table.shared.table_id.slots c.args.seat.now.id (c.args.start + c.args.k) c.args.k c.args.word c.args.seat.now.me c.requires.seat.plan
          c.requires.next c.requires.room (omega arith),
    )

pub returns-clause-seat : goal.returns-clause-seat
returns-clause-seat g c = record { table = c.store.ensures.0 ∙ c.requires.seat.table; plan = ap (λ m. m.0.plan) (c.store.ensures.2 (plan_of c.args.self.now) c.args.k c.requires.seat.plan (omega (arith, c.requires.start))) ∙ c.requires.seat.plan }
