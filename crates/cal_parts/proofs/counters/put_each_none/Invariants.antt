use Rattle.std.proofs.Common.{◌≡◌, ◌++◌, [], map, take}
use Rattle.cal_parts.specs.Parts.{part_over}
use Rattle.cal_parts.proofs.counters.put_each_none.Given as goal

abbrev pub invariant-loop-counter : goal.invariant-loop-counter
invariant-loop-counter l =
    l.parts ≡ l.fn.parts ++ map (λ counter. part_over counter.kernel []) (take l.counter-index l.counters)
