use Rattle.std.proofs.Common.{◌≡◌, Some, map, slice_get, take}
use Rattle.cal_filter.specs.Known.{sought}
use Rattle.cal_filter.specs.Sought.{number_of}
use Rattle.cal_parts.specs.Counters.{SeekMore}
use Rattle.cal_parts.proofs.counter.number_places.Given as goal

-- the names before this one have their seekers
abbrev pub invariant-loop-name : goal.invariant-loop-name
invariant-loop-name l = record {
  places : map (slice_get (map sought l.seekers.items)) l.places.items ≡ map Some (map number_of (take l.name-index l.names));
  more : SeekMore l.fn.seekers.items l.seekers.items;
}
