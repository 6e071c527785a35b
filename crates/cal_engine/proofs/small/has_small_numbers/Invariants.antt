use Rattle.std.proofs.Common.{take}
use Rattle.std.specs.List.{All}
use Rattle.cal_value.specs.Flat.{joined}
use Rattle.cal_value.specs.Reading.{IsSmall}
use Rattle.cal_engine.proofs.small.has_small_numbers.Given as goal

abbrev pub invariant-loop-path : goal.invariant-loop-path
invariant-loop-path l = All (λ e. IsSmall e.value) (joined (take l.path-index l.rec.paths))
