use Rattle.std.proofs.Common.{◌≡◌, ◌++◌}
use Rattle.std.specs.Vec.Iter.{into_iter_items}
use Rattle.cal_ql.specs.Lets.{names_in, number_of}
use Rattle.cal_ql.proofs.Moves.{or_else}
use Rattle.cal_ql.proofs.lets.names_and_number.Given as goal

-- what was taken, and what is left, are all
abbrev pub invariant-loop-argument : goal.invariant-loop-argument
invariant-loop-argument l =
    (l.names ++ names_in (into_iter_items l.argument-iterator) ≡ names_in l.fn.arguments)
    × (or_else l.number (number_of (into_iter_items l.argument-iterator)) ≡ number_of l.fn.arguments)
