use Rattle.std.proofs.lemmas.Result.{IfOk-weaker}
use Rattle.cal_tabfmt.specs.Ends.{front_of_line}
use Rattle.cal_tabfmt.proofs.GridLemmas.{front-more, front-past}
use Rattle.cal_tabfmt.proofs.grid.append_column.Goals as goal

pub returns-in-Some : goal.returns-in-Some
returns-in-Some c =
    let shapes = c.args.shapes.now in
    let read = c.in-Some.ensures.lookup in
    IfOk-weaker c.append_behind_gap.result _ _
    (λ left appended before texts within is has.
    rw (front-more shapes texts c.args.place c.in-Some.shape.now c.args.text.now read.3.0 within read.1 is)
    (appended before (front_of_line shapes texts c.args.place) has))
    c.append_behind_gap.ensures

pub returns-in-None : goal.returns-in-None
returns-in-None c =
    let shapes = c.args.shapes.now in
    λ before texts within is has.
    rw (front-past shapes texts c.args.place c.in-None.ensures.lookup.3) has
