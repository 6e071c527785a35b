use Rattle.std.proofs.Common.{ap, ◌∙◌}
use Rattle.std.proofs.lemmas.List.{take_all}
use Rattle.cal_rowset.specs.Texts.{is_same}
use Rattle.cal_treefmt.specs.Columns.{columns_beside}
use Rattle.cal_treefmt.proofs.Naming.{columns-more, names_known}
use Rattle.cal_treefmt.proofs.columns.columns_beside.Goals as goal

pub loop-column-preserved : goal.loop-column-preserved
loop-column-preserved c = λ rows has.
    columns-more rows c.in_ok-names.names c.args.columns.now c.loop-column.column-index c.column-item.result c.loop-column.beside.items _ c.loop-column-test.true c.column-item.is
    (names_known c.args.context.now rows c.in_ok-names.names c.column-item.result.name has (c.in_ok-names.ensures (is_same c.column-item.result.name)))
    (c.loop-column.invariant rows has) c.in_ok-push_beside.ensures

pub returns : goal.returns
returns c = λ rows has.
    c.loop-column.invariant rows has ∙ ap (columns_beside rows) (take_all c.loop-column.column-index c.args.columns.now c.loop-column-test.false)
