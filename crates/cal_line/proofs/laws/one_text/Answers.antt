use Rattle.cal_line.proofs.TokenSteps.{spelled_text-Spells, Spells-spelled_text}
use Rattle.cal_line.proofs.laws.one_text.Goals as goal

pub returns-clause-one : goal.returns-clause-one
returns-clause-one c = λ bytes text other first second.
    let read = spelled_text-Spells bytes text first in
    let again = spelled_text-Spells bytes other second in
    cc

pub returns-clause-computed : goal.returns-clause-computed
returns-clause-computed c = λ bytes text. (spelled_text-Spells bytes text, Spells-spelled_text bytes text)
