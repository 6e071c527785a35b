use Rattle.cal_ql.specs.Clauses.{all_clauses}
use Rattle.cal_ql.specs.Reading.{count}
use Rattle.cal_ql.specs.Steps.{tokens_ahead}
use Rattle.cal_ql.specs.Tokens.{tokens_of}
use Rattle.cal_ql.proofs.ClauseLists.{Remains}
use Rattle.cal_ql.proofs.clauses.clauses_of.Given as goal

-- the clauses so far, and those that are left, are all
abbrev pub invariant-loop-ahead : goal.invariant-loop-ahead
invariant-loop-ahead l = Remains l.clauses (tokens_ahead l.ahead) (all_clauses (tokens_of l.text))

abbrev pub decreases-loop-ahead : goal.decreases-loop-ahead
decreases-loop-ahead l = count (tokens_ahead l.ahead)
