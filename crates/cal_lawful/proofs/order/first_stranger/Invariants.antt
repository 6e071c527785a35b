use Rattle.std.proofs.Common.{take}
use Rattle.std.specs.List.{All}
use Rattle.cal_run.specs.Lawful.{IsKnown}
use Rattle.cal_lawful.proofs.order.first_stranger.Given as goal

-- the operations so far name process lines
abbrev pub invariant-loop-place : goal.invariant-loop-place
invariant-loop-place l = All (IsKnown l.script) (take l.place l.ops)
