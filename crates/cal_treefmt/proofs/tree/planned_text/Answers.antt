use Rattle.std.proofs.Common.{◌≡◌, ℕ, suc, List, ◌∷◌, ◌++◌, length, map, sym, ap, ◌∙◌}
use Rattle.std.specs.List.{flat_map}
use Rattle.cal_rowset.specs.declared.rowset.Column.{Column}
use Rattle.cal_tabfmt.specs.Grid.{grid_line, shapes}
use Rattle.cal_treefmt.specs.Columns.{columns_beside}
use Rattle.cal_treefmt.specs.Plans.{shown}
use Rattle.cal_treefmt.specs.Tree.{header_texts, line_texts, rights, tree_of}
use Rattle.cal_treefmt.specs.declared.lines.Line.{Line}
use Rattle.cal_treefmt.proofs.Writing.{length-rights, length-shapes, tree-written}
use Rattle.cal_treefmt.proofs.tree.planned_text.Goals as goal

pub returns : goal.returns
returns g c =
    let answer = g.A.Answer.answer c.args.answer.now in
    let rows = answer.rows.rows in
    let plan = c.args.plan.now in
    let is_plan = c.requires in
    let beside = c.in_ok-beside.beside.items in
    let made = c.in_ok-shapes.shapes.items in
    let lines = c.in_ok-lines.lines.items in
    let texts : List Column → Line → List (List ℕ) = λ columns line. line_texts columns (shown plan.context rows line) in
    let made_raw : made ≡ shapes (header_texts c.deref.result.now ∷ map (texts c.deref.result.now) c.deref-2.result.now) 0 (rights c.deref.result.now) = c.in_ok-shapes.ensures in
    let made_is : made ≡ shapes (header_texts beside ∷ map (texts beside) lines) 0 (rights beside) =
    made_raw ∙ (λ j. shapes (header_texts (c.deref.ensures.value j) ∷ map (texts (c.deref.ensures.value j)) (c.deref-2.ensures.value j)) 0 (rights (c.deref.ensures.value j))) in
    let first_raw : c.write_headers.new.out ≡ c.new-out.result ++ grid_line c.deref-3.result.now (header_texts c.deref-4.result.now) = c.in_ok-write_headers.ensures in
    let first = first_raw ∙ (λ j. c.new-out.ensures j ++ grid_line (c.deref-3.ensures.value j) (header_texts (c.deref-4.ensures.value j))) in
    let counted : length c.deref-5.result.now ≡ suc (length c.deref-6.result.now) =
    ap length (c.deref-5.ensures.value ∙ made_is) ∙ length-shapes (header_texts beside ∷ map (texts beside) lines) 0 (rights beside) ∙ length-rights beside ∙ ap (λ (cs : List Column). suc (length cs)) (sym c.deref-6.ensures.value) in
    let rest_raw : c.write_lines.new.out ≡ c.write_headers.new.out ++ flat_map (λ line. grid_line c.deref-5.result.now (texts c.deref-6.result.now line)) c.deref-7.result.now = c.in_ok-write_lines.ensures counted in
    let rest = rest_raw ∙ (λ j. c.write_headers.new.out ++ flat_map (λ line. grid_line (c.deref-5.ensures.value j) (texts (c.deref-6.ensures.value j) line)) (c.deref-7.ensures.value j)) in
    tree-written plan.context rows c.columns.result.now beside c.in_ok-lines.lines.items made c.write_headers.new.out c.write_lines.new.out
    (c.in_ok-beside.ensures rows is_plan.has) (c.in_ok-lines.ensures.shown rows is_plan) made_is first rest
    ∙ ap (λ (columns : List Column). tree_of (columns_beside rows columns) rows) c.columns.ensures
