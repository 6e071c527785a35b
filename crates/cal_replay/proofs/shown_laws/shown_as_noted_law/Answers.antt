use Rattle.cal_replay.proofs.ShownAsNoted.{own-shown, shared-shown}
use Rattle.cal_replay.proofs.shown_laws.shown_as_noted_law.Goals as goal

pub returns-clause-own : goal.returns-clause-own
returns-clause-own c = λ common old mid new shown met done h state n m reads has own accepted seen
    reading. own-shown common old mid new shown h state n reads reading met done m has own accepted
    seen

pub returns-clause-shared : goal.returns-clause-shared
returns-clause-shared c = λ common old mid new shown op reply h state n m reads has shared accepted
    seen reading. shared-shown common old mid new shown h state n reads reading op reply m has
    shared accepted seen
