use Rattle.std.proofs.Common.{get_or, sym, ap, ◌∙◌, arith}
use Rattle.std.proofs.lemmas.List.{get_or_default}
use Rattle.cal_context.specs.Tree.{attribute_at}
use Rattle.cal_rowset.specs.Hierarchy.{is_of_hierarchy}
use Rattle.cal_engine.proofs.Learned.{any_at}
use Rattle.cal_engine.proofs.snapshot_columns.has_nested.Goals as goal

pub returns-then-is_of_hierarchy : goal.returns-then-is_of_hierarchy
returns-then-is_of_hierarchy c =
    let trail = c.args.trail.now in
    let n = c.loop-attribute.attribute-index in
    let attribute = get_or trail n (record { 0 = 0 }) in
    sym (any_at is_of_hierarchy (attribute_at c.args.context.now) trail n attribute (omega arith)
    (get_or_default trail n (record { 0 = 0 }) attribute (omega arith))
    (ap is_of_hierarchy (sym c.attribute_at.ensures) ∙ sym c.is_of_hierarchy.ensures ∙ c.if-is_of_hierarchy.true))
