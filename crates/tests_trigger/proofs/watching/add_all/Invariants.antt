use Rattle.std.proofs.Common.{[], take}
use Rattle.cal_ql.specs.declared.query.Query.{Query}
use Rattle.cal_engine.specs.Folding.{StandsFor}
use Rattle.cal_trigger.specs.Watching.{let_through}
use Rattle.tests_trigger.proofs.watching.add_all.Given as goal

-- those of the rows so far
abbrev pub invariant-loop-rec : goal.invariant-loop-rec
invariant-loop-rec g l = (q : Query) → StandsFor q [] l.fn.watch
    → StandsFor q (let_through l.trigger.conds (take l.rec-index l.rows)) l.watch
