use Rattle.std.proofs.Common.{◌≡◌, take}
use Rattle.std.specs.List.{last_or}
use Rattle.cal_parts.specs.Kernels.{numbers_sought}
use Rattle.cal_parts.proofs.reading.last_among.Given as goal

abbrev pub invariant-loop-entry : goal.invariant-loop-entry
invariant-loop-entry l =
    l.last ≡ last_or l.fn.before (numbers_sought l.whole l.name (take l.entry-index l.entries))
