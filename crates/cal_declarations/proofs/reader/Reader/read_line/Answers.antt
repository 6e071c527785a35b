use Rattle.cal_declarations.proofs.reader.Reader.read_line.Goals as goal

pub returns-clause-said : goal.returns-clause-said
returns-clause-said c = rw c.in-Ok.ensures.cases.0 at c.read_known.ensures.said
