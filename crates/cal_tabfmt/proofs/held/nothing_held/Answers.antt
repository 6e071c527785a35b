use Rattle.std.proofs.Common.{List, [], ◌∷◌, ◌++◌, map, take, sym, ap, ap₂, ◌∙◌}
use Rattle.std.proofs.lemmas.List.{map-append, take_more}
use Rattle.cal_rowset.specs.declared.rowset.Column.{Column}
use Rattle.cal_tabfmt.specs.Tables.{held}
use Rattle.cal_tabfmt.specs.declared.held.Held.{Held}
use Rattle.cal_tabfmt.proofs.TableLemmas.{held-none}
use Rattle.cal_tabfmt.proofs.held.nothing_held.Goals as goal

pub loop-column-preserved : goal.loop-column-preserved
loop-column-preserved c =
    let columns = c.args.columns.now in
    let index = c.loop-column.column-index in
    let column = c.column-item.result in
    c.in_ok-push.ensures.items
    ∙ ap₂ (λ (front : List Held) (last : Held). front ++ last ∷ []) c.loop-column.invariant (held-none column _ c.in_ok-shown_width.ensures)
    ∙ sym (map-append (held []) (take index columns) (column ∷ []))
    ∙ ap (λ (k : Column). map (held []) (take index columns ++ k ∷ [])) c.column-item.is
    ∙ ap (map (held [])) (sym (take_more columns index column c.loop-column-test.true))
