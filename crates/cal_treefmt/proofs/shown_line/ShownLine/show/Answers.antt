use Rattle.std.proofs.Common.{◌∙◌}
use Rattle.std.proofs.lemmas.Result.{on_ok_weaker}
use Rattle.cal_treefmt.proofs.shown_line.ShownLine.show.Goals as goal

pub returns-clause-shows : goal.returns-clause-shows
returns-clause-shows g c =
    on_ok_weaker c.show_row.result
    (λ shows columns is. record {
      label = c.show_row.ensures.label ∙ c.in_ok-write_label.ensures;
      beside = shows columns is.cells;
      empty = c.show_row.ensures.empty ∙ is.empty;
    })
    c.show_row.ensures.shows
