use Rattle.std.proofs.Common.{◌≡◌, take}
use Rattle.cal_steps.proofs.node_board.board_of_lines.Given as goal
use Rattle.cal_steps.specs.NodePlaces.{board_of_lines}

-- the board behind the lines so far
abbrev pub invariant-loop-place : goal.invariant-loop-place
invariant-loop-place l = l.board ≡ board_of_lines l.script (take l.place l.lines)
