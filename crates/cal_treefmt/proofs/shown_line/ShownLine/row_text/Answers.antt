use Rattle.std.proofs.Common.{ap}
use Rattle.cal_tabfmt.specs.Grid.{on_line}
use Rattle.cal_treefmt.proofs.shown_line.ShownLine.row_text.Goals as goal

pub returns-in-Some : goal.returns-in-Some
returns-in-Some c = λ columns row shows within. ap on_line (c.in-Some.ensures columns row shows within).text

pub returns-in-None : goal.returns-in-None
returns-in-None c = λ columns row shows within. absurd (c.in-None.ensures columns row shows within)
