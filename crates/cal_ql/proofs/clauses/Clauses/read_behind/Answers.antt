use Rattle.cal_ql.specs.Steps.{tokens_ahead}
use Rattle.cal_ql.proofs.ClauseLists.{no_clause}
use Rattle.cal_ql.proofs.clauses.Clauses.read_behind.Goals as goal

pub returns-in_default-clause-read : goal.returns-in_default-clause-read
returns-in_default-clause-read c =
    let d = c.in_default in
    rw c.refused.ensures
    (no_clause c.args.self.now (tokens_ahead c.args.here) (tokens_ahead c.args.ahead) c.args.keyword d.not-Let d.not-Select d.not-Aggregate d.not-Where d.not-Group d.not-Order d.not-Format)
