use Rattle.std.proofs.lemmas.Result.{IfOk-weaker}
use Rattle.cal_rowset.specs.Cells.{shown_values}
use Rattle.cal_rowset.specs.Showing.{nth_column}
use Rattle.cal_tabfmt.proofs.column_lines.append_column.Goals as goal

pub returns-in-Some : goal.returns-in-Some
returns-in-Some c =
    IfOk-weaker c.append_behind.result _ _
    (λ first appended columns row before parts shows within front has.
    let column = nth_column columns c.args.place in
    appended before parts (shown_values row column.name) column.header front (c.in-Some.ensures columns row shows within) has)
    c.append_behind.ensures

pub returns-in-None : goal.returns-in-None
returns-in-None c = λ columns row before parts shows within front has. absurd (c.in-None.ensures columns row shows within)
