use Rattle.cal_once.proofs.Moves.{allows_read}
use Rattle.cal_once.proofs.Within.{region_inside}
use Rattle.cal_once.proofs.rows.Rows.read.Goals as goal

pub load-requires : goal.load-requires
load-requires g c =
    let rows = c.args.self.now in
    let plan = rows.table.shared.key in
    let within = (c.requires.sound.within c.args.place c.args.slot c.requires.place c.requires.known).1 in (
      c.requires.seat.table,
      region_inside plan.shape rows.table.shared.table_id.words within.0 c.args.slot c.args.i rows.long within.1 c.requires.inside.1,
      allows_read g.S.RecSort plan rows.table.shared.table_id.slots c.args.seat.now.id c.args.i c.args.place c.args.slot c.args.seat.now.me c.requires.seat.plan c.requires.place c.requires.known
          c.requires.inside.0 c.requires.inside.1,
    )
