use Rattle.std.proofs.Common.{◌&&◌, length, sym, ap, ◌∙◌}
use Rattle.std.specs.Prelude.{◌==◌}
use Rattle.cal_engine.proofs.filtering.is_plain.Goals as goal

pub returns-then-is_empty : goal.returns-then-is_empty
returns-then-is_empty c =
    c.is_empty-then-is_empty.ensures
    ∙ sym (ap (λ b. b && (length c.args.query.now.conds == 0)) (sym c.is_empty.ensures ∙ c.if-is_empty.true))

pub returns-else-is_empty : goal.returns-else-is_empty
returns-else-is_empty c =
    c.if-is_empty.false
    ∙ sym (ap (λ b. b && (length c.args.query.now.conds == 0)) (sym c.is_empty.ensures ∙ c.if-is_empty.false))
