use Rattle.cal_notes.proofs.Taken.{previous-next, taken-next, taken-same}
use Rattle.cal_notes.proofs.laws.same_snapshots_law.Goals as goal

pub returns-clause-same : goal.returns-clause-same
returns-clause-same c = taken-same

pub returns-clause-next : goal.returns-clause-next
returns-clause-next c = λ script real h more thread ls note line n channel keeps.
    taken-next script real h more thread ls note channel keeps line n

pub returns-clause-previous : goal.returns-clause-previous
returns-clause-previous c = λ script real h more thread ls note line n channel keeps.
    previous-next script real h more thread ls note channel keeps line n
