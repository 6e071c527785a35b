use Rattle.std.proofs.Common.{sym, ◌∙◌}
use Rattle.cal_engine.proofs.Folds.{kept_plain}
use Rattle.cal_engine.proofs.filtering.made.Goals as goal

pub returns-then-is_plain : goal.returns-then-is_plain
returns-then-is_plain c = kept_plain c.args.query.now c.args.rec (sym c.is_plain.ensures ∙ c.if-is_plain.true)
