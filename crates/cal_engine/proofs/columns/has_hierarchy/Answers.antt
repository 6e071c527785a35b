use Rattle.std.proofs.Common.{ap, ◌∙◌}
use Rattle.std.specs.List.{list_any}
use Rattle.cal_rowset.specs.Hierarchy.{is_of_hierarchy}
use Rattle.cal_engine.proofs.Learned.{nested_any}
use Rattle.cal_engine.proofs.columns.has_hierarchy.Goals as goal

pub returns : goal.returns
returns c =
    c.some_nested.ensures
    ∙ ap (list_any (λ path. list_any (λ e. is_of_hierarchy e.attr) path)) c.as_slice.ensures
    ∙ nested_any c.args.row.now
