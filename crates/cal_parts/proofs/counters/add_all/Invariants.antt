use Rattle.std.proofs.Common.{◌≡◌, List, length, take}
use Rattle.std.specs.List.{AllZip}
use Rattle.cal_parts.specs.Counters.{CountsFor, IsReadyFound, record_of, sought_in}
use Rattle.cal_parts.specs.PartLists.{merged_from}
use Rattle.cal_parts.specs.Readings.{parts_of}
use Rattle.cal_parts.specs.declared.reading.Reading.{Reading}
use Rattle.cal_parts.proofs.counters.add_all.Given as goal

-- those before this place are added to, and the others are as they were
abbrev pub invariant-loop-place : goal.invariant-loop-place
invariant-loop-place l = record {
  long : length l.parts ≡ length l.fn.parts;
  merged : (rs : List Reading) → AllZip (CountsFor (sought_in l.found)) rs l.counters → IsReadyFound l.found → l.parts
      ≡ merged_from l.fn.parts l.from (take l.place (parts_of rs (record_of l.found)));
}
