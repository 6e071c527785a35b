use Rattle.std.proofs.Common.{sym, ◌∙◌, ap}
use Rattle.cal_rowset.specs.Hierarchy.{is_of_hierarchy}
use Rattle.cal_keys.proofs.OwnNodes.{nested_child}
use Rattle.cal_keys.proofs.single_paths.has_nested_entry.Goals as goal

pub returns-in-Some : goal.returns-in-Some
returns-in-Some c = λ nested before.
    nested_child c.args.tree.now c.in-Some.link c.args.node c.in-Some.ensures.linked
    (sym (c.is_of_hierarchy.ensures ∙ ap is_of_hierarchy c.attribute_at.ensures) ∙ nested) before
