use Rattle.std.proofs.Common.{◌≡◌, None, Some, slice_get, option_and_then, refl, sym, ap, ◌∙◌, subst, arith}
use Rattle.cal_rowset.specs.Answers.{nth_row}
use Rattle.cal_treefmt.specs.Shown.{ShowsBeside}
use Rattle.cal_treefmt.proofs.Writing.{row-past, row-there}
use Rattle.cal_treefmt.proofs.shown_line.ShownLine.show_row.Goals as goal

pub returns-in_default-clause-shows : goal.returns-in_default-clause-shows
returns-in_default-clause-shows g c = λ columns is.
    let rows = (g.A.Answer.answer c.args.answer.now).rows.rows in
    let lacks : option_and_then (slice_get rows) c.args.place ≡ None = ap (option_and_then (slice_get rows)) c.in_default.is in
    subst (ShowsBeside columns _) (sym lacks) (record { cells = is; shows = refl })

pub returns-then-place-row_count-clause-shows : goal.returns-then-place-row_count-clause-shows
returns-then-place-row_count-clause-shows g c = λ columns is.
    let rows = (g.A.Answer.answer c.args.answer.now).rows.rows in
    let lacks : option_and_then (slice_get rows) c.args.place ≡ None =
    ap (option_and_then (slice_get rows)) c.in-Some.is ∙ row-past rows c.in-Some.place (omega (arith, c.if-place-row_count.true, c.row_count.ensures)) in
    subst (ShowsBeside columns _) (sym lacks) (record { cells = is; shows = refl })

pub returns-clause-shows : goal.returns-clause-shows
returns-clause-shows g c = λ columns is.
    let rows = (g.A.Answer.answer c.args.answer.now).rows.rows in
    let shows = c.in_ok-show.ensures.shows columns is in
    let there : option_and_then (slice_get rows) c.args.place ≡ Some (nth_row rows c.in-Some.place) =
    ap (option_and_then (slice_get rows)) c.in-Some.is ∙ row-there rows c.in-Some.place (omega (arith, c.if-place-row_count.false, c.row_count.ensures)) in
    subst (ShowsBeside columns _) (sym there) (record { cells = shows.is; shows = (refl, shows) })
