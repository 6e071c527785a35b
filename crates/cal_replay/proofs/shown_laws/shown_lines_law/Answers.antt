use Rattle.cal_replay.proofs.ShownLines.{shown-later, shown-merged, shown-next-line}
use Rattle.cal_replay.proofs.shown_laws.shown_lines_law.Goals as goal

pub returns-clause-line : goal.returns-clause-line
returns-clause-line c = λ common attributes numbers real thread number h ops rest ls note n shown
    channel was is given keeps named noted s before. shown-next-line common attributes numbers real
    thread number h ops rest ls note n shown channel was is given keeps named noted s before

pub returns-clause-merged : goal.returns-clause-merged
returns-clause-merged c = shown-merged

pub returns-clause-learns : goal.returns-clause-learns
returns-clause-learns c = shown-later
