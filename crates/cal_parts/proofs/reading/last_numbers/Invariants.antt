use Rattle.std.proofs.Common.{◌≡◌, take}
use Rattle.std.specs.List.{filter_map}
use Rattle.cal_filter.specs.Named.{last_number}
use Rattle.cal_parts.proofs.reading.last_numbers.Given as goal

abbrev pub invariant-loop-name : goal.invariant-loop-name
invariant-loop-name l =
    l.numbers.items ≡ filter_map (λ name. last_number name l.rec) (take l.name-index l.names)
