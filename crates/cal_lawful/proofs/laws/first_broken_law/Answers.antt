use Rattle.cal_lawful.proofs.FirstLemmas.{broken-once, lawful-unbroken}
use Rattle.cal_lawful.proofs.laws.first_broken_law.Goals as goal

pub returns-clause-lawful : goal.returns-clause-lawful
returns-clause-lawful c = λ script text rule line is. lawful-unbroken script text is rule line

pub returns-clause-one : goal.returns-clause-one
returns-clause-one c = λ script text rule other line place. broken-once script text rule other line
    place
