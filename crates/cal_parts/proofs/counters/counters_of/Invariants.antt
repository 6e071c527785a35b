use Rattle.std.proofs.Common.{map, take}
use Rattle.std.specs.List.{AllZip}
use Rattle.cal_filter.specs.Known.{sought}
use Rattle.cal_parts.specs.Counters.{CountsFor, SeekMore}
use Rattle.cal_parts.proofs.counters.counters_of.Given as goal

abbrev pub invariant-loop-reading : goal.invariant-loop-reading
invariant-loop-reading l = record {
  counts : AllZip (CountsFor (map sought l.seekers.items)) (take l.reading-index l.readings) l.counters.items;
  more : SeekMore l.fn.seekers.items l.seekers.items;
}
