use Rattle.std.proofs.Common.{◌≡◌, None, take}
use Rattle.std.specs.List.{last_or}
use Rattle.cal_value.specs.Flat.{joined}
use Rattle.cal_parts.specs.Kernels.{numbers_sought}
use Rattle.cal_parts.proofs.reading.last_number.Given as goal

abbrev pub invariant-loop-path : goal.invariant-loop-path
invariant-loop-path l =
    l.last ≡ last_or None (numbers_sought l.whole l.name (joined (take l.path-index l.rec.paths)))
