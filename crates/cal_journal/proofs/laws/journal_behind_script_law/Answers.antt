use Rattle.cal_journal.proofs.Behind.{read_behind}
use Rattle.cal_journal.proofs.laws.journal_behind_script_law.Goals as goal

pub returns : goal.returns
returns c = λ bytes script journal means ends holds.
    read_behind bytes script journal means ends holds
