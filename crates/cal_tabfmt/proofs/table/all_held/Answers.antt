use Rattle.std.proofs.Common.{◌≡◌, List, ◌<◌, length, map, take, ap, ◌∙◌, sym, subst, arith}
use Rattle.std.proofs.lemmas.List.{length-map, take_more}
use Rattle.cal_value.specs.declared.record.Rec.{Rec}
use Rattle.cal_rowset.specs.Answers.{nth_row}
use Rattle.cal_tabfmt.specs.Kept.{Keeps}
use Rattle.cal_tabfmt.specs.Tables.{held}
use Rattle.cal_tabfmt.proofs.KeptLemmas.{row_lines-more}
use Rattle.cal_tabfmt.proofs.table.all_held.Goals as goal

pub loop-place-preserved : goal.loop-place-preserved
loop-place-preserved g c =
    let kept = c.loop-place.invariant in
    let columns = c.args.columns.now in
    let rows = (g.A.Answer.answer c.args.answer.now).rows.rows in
    let place = c.loop-place.place in
    let within : place < length rows = omega (arith, c.row_count-place-end.ensures, c.loop-place-test.true) in
    let shows = c.in_ok-show.ensures.shows columns kept.shown in
    record {
      known = subst (λ (rs : List Rec). c.hold_row.new.all.items ≡ map (held rs) columns) (sym (take_more rows place _ within))
          (c.in_ok-hold_row.ensures.held columns (nth_row rows place) (take place rows) shows kept.known);
      texts = λ none.
          let many = ap length kept.known ∙ length-map columns _ in
          subst (Keeps c.hold_row.new.texts) (sym (row_lines-more columns rows place within))
          (c.in_ok-hold_row.ensures.texts columns (nth_row rows place) _ shows many (kept.texts none));
      shown = shows.is;
      ready = c.in_ok-show.ensures.ready;
    }
