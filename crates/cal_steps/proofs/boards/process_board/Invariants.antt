use Rattle.std.proofs.Common.{◌≡◌}
use Rattle.cal_run.specs.History.{process_board}
use Rattle.cal_steps.proofs.boards.process_board.Given as goal

-- the board after the operations so far
abbrev pub invariant-loop-place : goal.invariant-loop-place
invariant-loop-place l = l.board ≡ process_board l.script l.history l.place
