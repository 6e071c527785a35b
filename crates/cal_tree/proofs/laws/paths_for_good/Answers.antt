use Rattle.cal_once.specs.Views.{joined}
use Rattle.cal_once.proofs.Seen.{Saw_left, Saw_right}
use Rattle.cal_tree.proofs.Ways.{leads_later}
use Rattle.cal_tree.proofs.laws.paths_for_good.Goals as goal

pub returns-clause-later : goal.returns-clause-later
returns-clause-later c slots v w path node more l = leads_later slots v w 0 0 path node more l

pub returns-clause-first : goal.returns-clause-first
returns-clause-first c slots v w path node l = leads_later slots v (joined v w) 0 0 path node (λ i x saw. Saw_left v.seen w.seen i x saw) l

pub returns-clause-other : goal.returns-clause-other
returns-clause-other c slots v w path node l = leads_later slots w (joined v w) 0 0 path node (λ i x saw. Saw_right v.seen w.seen i x saw) l
