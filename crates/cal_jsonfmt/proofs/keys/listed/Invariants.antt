use Rattle.std.proofs.Common.{◌≡◌, ◌++◌}
use Rattle.cal_jsonfmt.proofs.keys.listed.Given as goal

-- the texts so far, with those that are left, are the set's
abbrev pub invariant-loop-name : goal.invariant-loop-name
invariant-loop-name l = l.names.items ++ l.name-iterator ≡ l.fn.set.keys
