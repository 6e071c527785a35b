use Rattle.std.proofs.Common.{[], take}
use Rattle.cal_ql.specs.declared.query.Query.{Query}
use Rattle.cal_engine.specs.Folding.{StandsFor}
use Rattle.cal_engine.proofs.answering.add_all.Given as goal

abbrev pub invariant-loop-rec : goal.invariant-loop-rec
invariant-loop-rec l = (q : Query) → StandsFor q [] l.fn.fold
    → StandsFor q (take l.rec-index l.records) l.fold
