use Rattle.std.proofs.Common.{◌≡◌, take}
use Rattle.std.specs.List.{flat_map}
use Rattle.cal_groups.specs.Keys.{numbers_of}
use Rattle.cal_groups.proofs.numbers.numbers_of_keys.Given as goal

-- the numbers of the keys so far
abbrev pub invariant-loop-key : goal.invariant-loop-key
invariant-loop-key l = l.numbers.items ≡ flat_map (numbers_of l.nodes) (take l.key-index l.keys)
