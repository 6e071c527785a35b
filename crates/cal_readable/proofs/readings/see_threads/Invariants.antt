use Rattle.std.proofs.Common.{take}
use Rattle.std.specs.List.{All}
use Rattle.cal_readable.specs.Seen.{HasShortReadings}
use Rattle.cal_readable.proofs.readings.see_threads.Given as goal

abbrev pub invariant-loop-thread : goal.invariant-loop-thread
invariant-loop-thread l = All HasShortReadings (take l.thread-index l.threads)
