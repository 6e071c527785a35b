use Rattle.std.proofs.Common.{take}
use Rattle.cal_lawful.specs.Checking.{AreCounted}
use Rattle.cal_lawful.proofs.order.first_out_of_order.Given as goal

-- the operations so far are counted
abbrev pub invariant-loop-place : goal.invariant-loop-place
invariant-loop-place l = AreCounted l.script (take l.place l.ops) l.counts
