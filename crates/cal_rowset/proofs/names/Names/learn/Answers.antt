use Rattle.std.proofs.Common.{sym}
use Rattle.cal_rowset.proofs.Knowing.{name_learned}
use Rattle.cal_rowset.proofs.names.Names.learn.Goals as goal

pub returns-clause-learned : goal.returns-clause-learned
returns-clause-learned c =
    let added = c.in_ok-place.ensures in
    rw (sym c.self.view_is) (name_learned _ _ c.args.name.now c.in_ok-copy.field-0 c.in_ok-place.place c.in_ok-copy.ensures added.keys added.stored)
