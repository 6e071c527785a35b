use Rattle.std.proofs.Common.{ℕ, List, [], ◌∷◌, ◌++◌, None, ap, ◌∙◌}
use Rattle.cal_tabfmt.specs.Expand.{expand_line}
use Rattle.cal_tabfmt.proofs.LinesMore.{lines_more}
use Rattle.cal_tabfmt.proofs.lines.own_lines.Goals as goal

pub loop-row-preserved : goal.loop-row-preserved
loop-row-preserved c =
    let kept = c.loop-row.invariant in
    let row = c.row-item.result in
    let holds = c.in_ok-fill_all.ensures kept.holds.0 kept.holds.1 in
    record {
      text = c.in_ok-append_own_line.ensures row holds c.in_ok-show_hierarchy.ensures
          ∙ ap (λ (t : List ℕ). t ++ (expand_line None row ++ 10 ∷ [])) kept.text
          ∙ lines_more None c.args.rows.now c.loop-row.row-index row c.loop-row-test.true c.row-item.is;
      holds = (_, holds);
    }
