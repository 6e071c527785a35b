use Rattle.std.proofs.Common.{◌-◌, length}
use Rattle.cal_line.proofs.ScanSteps.{Scanned}
use Rattle.cal_line.proofs.scanning.scan_piece.Given as goal

abbrev pub invariant-loop-place : goal.invariant-loop-place
invariant-loop-place l = Scanned l.line l.start l.place l.has_escape

abbrev pub decreases-loop-place : goal.decreases-loop-place
decreases-loop-place l = length l.line - l.place
