use Rattle.std.proofs.Common.{ℕ, List, ◌<◌, ◌+◌, ◌++◌, drop, flat_map, length, map, take, ap, sym, subst, ◌∙◌, append-nil, append_assoc, arith}
use Rattle.std.proofs.lemmas.List.{drop_more, length-map, take_all}
use Rattle.cal_value.specs.declared.record.Rec.{Rec}
use Rattle.cal_rowset.specs.Answers.{nth_row}
use Rattle.cal_tabfmt.specs.Grid.{grid_line}
use Rattle.cal_tabfmt.specs.Kept.{AreLeft}
use Rattle.cal_tabfmt.specs.Table.{cell_text, row_line}
use Rattle.cal_tabfmt.proofs.TableLemmas.{rows-more}
use Rattle.cal_tabfmt.proofs.table.append_rows.Goals as goal

pub loop-row-init : goal.loop-row-init
loop-row-init c = λ columns rows wide counted kept. (sym (append-nil c.args.out.now), c.first-mark.ensures (flat_map (row_line columns) rows) kept)

pub loop-row-preserved : goal.loop-row-preserved
loop-row-preserved c =
    λ columns rows wide counted kept.
    let made = c.args.shapes.now in
    let place = c.loop-row._row in
    let row = nth_row rows place in
    let within : place < length rows = omega (arith, counted, c.loop-row-test.true) in
    let so_far = c.loop-row.invariant columns rows wide counted kept in
    let left = subst (λ (rest : List Rec). AreLeft c.args.texts.now c.loop-row.mark (flat_map (row_line columns) rest)) (drop_more rows place _ within) so_far.1 in
    let next = c.in_ok-mark.ensures (row_line columns row) (flat_map (row_line columns) (drop (place + 1) rows)) (length-map columns (cell_text row) ∙ wide) left in (
      next.0
          ∙ ap (λ (t : List ℕ). t ++ grid_line made (row_line columns row)) so_far.0
          ∙ append_assoc c.args.out.now (flat_map (grid_line made) (map (row_line columns) (take place rows))) (grid_line made (row_line columns row))
          ∙ ap (λ (t : List ℕ). c.args.out.now ++ t) (rows-more made columns rows place within),
      next.1,
    )

pub returns : goal.returns
returns c =
    λ columns rows wide counted kept.
    let so_far = c.loop-row.invariant columns rows wide counted kept in
    so_far.0 ∙ ap (λ (rs : List Rec). c.args.out.now ++ flat_map (grid_line c.args.shapes.now) (map (row_line columns) rs))
    (take_all c.loop-row._row rows (omega (arith, counted, c.loop-row-test.false)))
