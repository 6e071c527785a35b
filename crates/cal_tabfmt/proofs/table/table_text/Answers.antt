use Rattle.std.proofs.Common.{◌≡◌, ◌≢◌, ℕ, List, ◌∷◌, ◌++◌, flat_map, length, map, ap, sym, ◌∙◌}
use Rattle.std.proofs.lemmas.Bool.{eqb-false}
use Rattle.std.proofs.lemmas.List.{length-map}
use Rattle.cal_rowset.specs.declared.rowset.Column.{Column}
use Rattle.cal_tabfmt.specs.Grid.{grid_line, shapes}
use Rattle.cal_tabfmt.specs.Table.{header_line, is_right, row_line, table_lines}
use Rattle.cal_tabfmt.specs.Tables.{held, shape_of}
use Rattle.cal_tabfmt.proofs.TableLemmas.{shapes_are, table_lines-some}
use Rattle.cal_tabfmt.proofs.table.table_text.Goals as goal

pub returns : goal.returns
returns g c =
    let columns = c.columns-columns.result.now in
    let rows = (g.A.Answer.answer c.args.answer.now).rows.rows in
    let some : length columns ≢ 0 = eqb-false (length columns) 0 (sym c.is_empty.ensures ∙ c.if-is_empty.false) in
    let all = shapes (header_line columns ∷ map (row_line columns) rows) 0 (map (is_right rows) columns) in
    let known = map (held rows) columns in
    let shown = c.in_ok-shapes.ensures ∙ ap (map shape_of) (c.deref.ensures.value ∙ c.in_ok-all.ensures.held) in
    let made = shown ∙ shapes_are columns rows in
    let wide : length columns ≡ length c.deref-4.result.now = sym (ap length (c.deref-4.ensures.value ∙ shown) ∙ length-map known shape_of ∙ length-map columns (held rows)) in
    let kept = c.in_ok-all.ensures.texts c.new-texts.ensures in
    let headers : c.append_headers.new.out ≡ grid_line all (header_line columns) = rw (c.deref-3.ensures.value ∙ made, c.text_with_room-out.ensures) at c.in_ok-append_headers.ensures in
    let lines : c.append_rows.new.out ≡ c.append_headers.new.out ++ flat_map (grid_line all) (map (row_line columns) rows) =
    rw (c.deref-4.ensures.value ∙ made) at (c.in_ok-append_rows.ensures columns rows wide (sym c.row_count-count.ensures) kept) in
    lines
    ∙ ap (λ (t : List ℕ). t ++ flat_map (grid_line all) (map (row_line columns) rows)) headers
    ∙ sym (table_lines-some columns rows some)
    ∙ ap (λ (these : List Column). table_lines these rows) c.columns-columns.ensures
