use Rattle.cal_rowset.proofs.Filling.{Holds-cleared}
use Rattle.cal_rowset.proofs.cells.Cells.clear.Goals as goal

pub returns-clause-cleared : goal.returns-clause-cleared
returns-clause-cleared c =
    λ entries holds. rw c.clear.ensures.items
    (Holds-cleared _ c.args.self.now.cells.items c.clear_used.new.cells.items c.args.self.now.used.items entries holds
    c.clear_used.ensures.counted (rw c.deref.ensures.value at c.clear_used.ensures.cleared))
