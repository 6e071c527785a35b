use Rattle.std.proofs.Common.{◌∙◌}
use Rattle.cal_treefmt.proofs.Writing.{beside-none, beside-some, row-of}
use Rattle.cal_treefmt.proofs.shown_line.ShownLine.cell_text.Goals as goal

pub returns-then-self : goal.returns-then-self
returns-then-self c = λ columns line shows within.
    let row = row-of columns c.args.self.now line shows c.if-self.true in
    c.row_text.ensures columns row.0 row.2 within ∙ beside-some columns line row.0 c.args.column row.1 within

pub returns : goal.returns
returns c = λ columns line shows within. beside-none columns c.args.self.now line c.args.column shows c.if-self.false within
