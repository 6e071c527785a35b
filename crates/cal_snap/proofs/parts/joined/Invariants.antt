use Rattle.std.proofs.Common.{◌≡◌, ◌++◌}
use Rattle.std.specs.Vec.Iter.{into_iter_items}
use Rattle.cal_snap.proofs.parts.joined.Given as goal

-- the entries so far and those that are left are those of both lists
abbrev pub invariant-loop-entry : goal.invariant-loop-entry
invariant-loop-entry g l =
    l.all.items ++ into_iter_items l.entry-iterator ≡ l.fn.head.items ++ l.fn.tops.items
