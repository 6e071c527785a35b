use Rattle.std.proofs.Common.{◌≡◌, drop}
use Rattle.cal_value.specs.Flat.{joined}
use Rattle.cal_value.proofs.flat.first_path.Given as goal

-- the paths so far are empty
abbrev pub invariant-loop-place : goal.invariant-loop-place
invariant-loop-place l = joined (drop l.place l.paths) ≡ joined l.paths
