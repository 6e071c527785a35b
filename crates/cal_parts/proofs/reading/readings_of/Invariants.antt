use Rattle.std.proofs.Common.{◌≡◌, map, take}
use Rattle.cal_parts.specs.Readings.{reading_of}
use Rattle.cal_parts.proofs.reading.readings_of.Given as goal

abbrev pub invariant-loop-agg : goal.invariant-loop-agg
invariant-loop-agg l = l.readings.items ≡ map reading_of (take l.agg-index l.aggs)
