use Rattle.std.proofs.Common.{ap, ◌∙◌, refl}
use Rattle.cal_once.proofs.Offers.{allows_offer}
use Rattle.cal_once.proofs.Within.{slot_inside}
use Rattle.cal_once.proofs.rows.Rows.offer.Goals as goal

pub compare_exchange-requires : goal.compare_exchange-requires
compare_exchange-requires g c =
    let rows = c.args.self.now in
    let plan = rows.table.shared.key in (
      c.requires.seat.table,
      slot_inside plan.shape rows.table.shared.table_id.words c.args.place rows.long c.requires.may.reached.is_place,
      allows_offer g.S.RecSort plan rows.table.shared.table_id.slots c.args.seat.now.id c.args.place c.args.distance c.args.word c.args.seat.now.me c.requires.seat.plan c.requires.may
          c.requires.word,
    )

pub returns-clause-seat : goal.returns-clause-seat
returns-clause-seat g c = record { table = c.compare_exchange.ensures.0 ∙ c.requires.seat.table; plan = ap (λ m. m.0.plan) (c.compare_exchange.ensures.2 c.args.place refl).view ∙ c.requires.seat.plan }
