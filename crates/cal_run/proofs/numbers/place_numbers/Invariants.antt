use Rattle.std.proofs.Common.{◌≡◌, map, take}
use Rattle.cal_run.specs.Numbers.{number_in}
use Rattle.cal_run.proofs.numbers.place_numbers.Given as goal

-- the numbers at the places so far
abbrev pub invariant-loop-place : goal.invariant-loop-place
invariant-loop-place l = l.placed.items ≡ map (number_in l.numbers) (take l.place-index l.places)
