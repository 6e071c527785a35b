use Rattle.std.proofs.Common.{take, []}
use Rattle.cal_line.proofs.Runs.{Runs}
use Rattle.cal_tabfmt.specs.Grid.{on_line}
use Rattle.cal_tabfmt.proofs.shown_text.on_line.Given as goal

abbrev pub invariant-loop-place : goal.invariant-loop-place
invariant-loop-place l = Runs l.text [] l.out l.run l.place (on_line (take l.place l.text))
