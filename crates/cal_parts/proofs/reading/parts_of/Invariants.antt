use Rattle.std.proofs.Common.{◌≡◌, take}
use Rattle.cal_parts.specs.Readings.{parts_of}
use Rattle.cal_parts.proofs.reading.parts_of.Given as goal

abbrev pub invariant-loop-reading : goal.invariant-loop-reading
invariant-loop-reading l = l.parts.items ≡ parts_of (take l.reading-index l.readings) l.rec
