use Rattle.std.proofs.Common.{refl}
use Rattle.cal_rowset.proofs.Trails.{IsTrail-back}
use Rattle.cal_rowset.proofs.cells.Cells.back.Goals as goal

pub returns-clause-given : goal.returns-clause-given
returns-clause-given c =
    λ entries e trail. IsTrail-back c.args.self.now
    (record { alloc = c.args.self.now.alloc; names = c.args.self.now.names; cells = c.undo_at.new.cells; used = c.undo_use.new.used; steps = c.pop.new.self })
    entries e c.in-Some.step c.pop.new.self.items trail c.in-Some.ensures.items refl refl c.undo_at.ensures c.undo_use.ensures
