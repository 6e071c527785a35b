use Rattle.std.proofs.Common.{ℕ, List, [], ◌∷◌, ◌++◌, ◌<◌, length, Some, ap, ◌∙◌, arith}
use Rattle.cal_rowset.specs.Answers.{nth_row}
use Rattle.cal_tabfmt.specs.Expand.{expand_line}
use Rattle.cal_tabfmt.proofs.LinesMore.{lines_at}
use Rattle.cal_tabfmt.proofs.column_lines.column_lines.Goals as goal

pub loop-place-preserved : goal.loop-place-preserved
loop-place-preserved g c =
    let kept = c.loop-place.invariant in
    let rows = (g.A.Answer.answer c.args.answer.now).rows.rows in
    let row = nth_row rows c.loop-place.place in
    let within : c.loop-place.place < length rows = omega (arith, c.row_count-place-end.ensures, c.loop-place-test.true) in
    let shows = c.in_ok-show.ensures.shows c.args.columns.now kept.is in
    record {
      text = c.in_ok-append_line.ensures c.args.columns.now row shows (c.deref.ensures.value ∙ c.in_ok-fronts.ensures)
          ∙ ap (λ (t : List ℕ). t ++ (expand_line (Some c.args.columns.now) row ++ 10 ∷ [])) kept.text
          ∙ lines_at (Some c.args.columns.now) rows c.loop-place.place within;
      is = shows.is;
      ready = c.in_ok-show.ensures.ready;
    }
