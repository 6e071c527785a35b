use Rattle.std.proofs.Common.{take}
use Rattle.cal_lawful.specs.Checking.{AreListed}
use Rattle.cal_lawful.proofs.order.process_lists.Given as goal

-- the process lines of the threads so far
abbrev pub invariant-loop-thread : goal.invariant-loop-thread
invariant-loop-thread l = AreListed l.script l.lists.items (take l.thread l.script.threads)
