use Rattle.cal_tabfmt.specs.Ends.{HasLine, front_of_line}
use Rattle.cal_tabfmt.proofs.grid.append_line.Given as goal

abbrev pub invariant-loop-place : goal.invariant-loop-place
invariant-loop-place l = HasLine l.fn.out l.out l.pending (front_of_line l.shapes l.texts l.place)
