use Rattle.std.proofs.Common.{sym, ◌∙◌}
use Rattle.cal_rowset.specs.Cells.{shown_values}
use Rattle.cal_rowset.specs.Showing.{nth_column}
use Rattle.cal_jsonfmt.proofs.ChoosingLemmas.{cell-absent, cell-there}
use Rattle.cal_jsonfmt.proofs.members.cell_at.Goals as goal

pub returns-in_err-cell : goal.returns-in_err-cell
returns-in_err-cell c = λ row shows. absurd (c.in_err-cell.ensures c.args.columns.now row shows c.requires)

pub returns-then-is_empty : goal.returns-then-is_empty
returns-then-is_empty c = λ row shows.
    cell-absent c.in_ok-cell.cell.now (shown_values row (nth_column c.args.columns.now c.args.place).name)
    (c.in_ok-cell.ensures c.args.columns.now row shows c.requires) (sym c.is_empty.ensures ∙ c.if-is_empty.true)

pub returns : goal.returns
returns c = λ row shows.
    cell-there c.in_ok-cell.cell.now (shown_values row (nth_column c.args.columns.now c.args.place).name)
    (c.in_ok-cell.ensures c.args.columns.now row shows c.requires) (sym c.is_empty.ensures ∙ c.if-is_empty.false)
