use Rattle.std.proofs.Common.{◌≡◌, take}
use Rattle.cal_agg.proofs.made.kernel_of.Given as goal

-- the kernel of the numbers before this one
abbrev pub invariant-loop-n : goal.invariant-loop-n
invariant-loop-n g l = l.kernel ≡ g.K.Kernel.over (take l.n-index l.numbers)
