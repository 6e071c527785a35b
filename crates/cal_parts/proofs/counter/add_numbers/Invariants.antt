use Rattle.std.proofs.Common.{◌≡◌, length, take}
use Rattle.std.specs.List.{filter_map}
use Rattle.cal_value.specs.Flat.{flat}
use Rattle.cal_parts.specs.Counters.{IsReadyFound, number_at, record_of, sought_in}
use Rattle.cal_parts.specs.PartLists.{merged_at}
use Rattle.cal_parts.specs.Parts.{part_over}
use Rattle.cal_parts.proofs.counter.add_numbers.Given as goal

-- what is found at the places before this one is added
abbrev pub invariant-loop-asked : goal.invariant-loop-asked
invariant-loop-asked l = record {
  long : length l.parts ≡ length l.fn.parts;
  merged : IsReadyFound l.found → l.parts ≡ merged_at l.fn.parts l.place (part_over l.kernel
      (filter_map (number_at (sought_in l.found) (flat (record_of l.found))) (take l.asked-index l.places)));
}
