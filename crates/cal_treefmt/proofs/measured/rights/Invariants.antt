use Rattle.std.proofs.Common.{◌≡◌, take}
use Rattle.cal_treefmt.specs.Tree.{rights}
use Rattle.cal_treefmt.proofs.measured.rights.Given as goal

abbrev pub invariant-loop-column : goal.invariant-loop-column
invariant-loop-column l = l.rights.items ≡ rights (take l._column-index l.columns)
