use Rattle.std.proofs.Common.{◌≡◌, take}
use Rattle.std.specs.List.{filter_map}
use Rattle.cal_agg.specs.Parts.{sum_over}
use Rattle.cal_filter.proofs.operation.total.Given as goal

-- the numbers before this place are added
abbrev pub invariant-loop-number : goal.invariant-loop-number
invariant-loop-number l = l.sum ≡ sum_over (filter_map (λ n. n) (take l.number-index l.numbers))
