use Rattle.cal_line.proofs.Inputs.{lines_of-newline, lines_of-last}
use Rattle.cal_line.proofs.laws.lines_end_at_newlines.Goals as goal

pub returns-clause-ended : goal.returns-clause-ended
returns-clause-ended c = lines_of-newline

pub returns-clause-last : goal.returns-clause-last
returns-clause-last c = λ line none some. lines_of-last line some none
