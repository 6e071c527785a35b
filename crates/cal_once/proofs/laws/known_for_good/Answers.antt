use Rattle.cal_once.specs.Views.{joined}
use Rattle.cal_once.proofs.Learning.{holds_later}
use Rattle.cal_once.proofs.Seen.{Saw_left, Saw_right}
use Rattle.cal_once.proofs.laws.known_for_good.Goals as goal

pub returns-clause-first : goal.returns-clause-first
returns-clause-first g c v w place words h = holds_later v (joined v w) place words (λ i x saw. Saw_left v.seen w.seen i x saw) h

pub returns-clause-other : goal.returns-clause-other
returns-clause-other g c v w place words h = holds_later w (joined v w) place words (λ i x saw. Saw_right v.seen w.seen i x saw) h
