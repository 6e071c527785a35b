use Rattle.std.proofs.Common.{take, Contains}
use Rattle.cal_steps.proofs.paths.has_path.Given as goal

-- the path is none of those so far
abbrev pub invariant-loop-known : goal.invariant-loop-known
invariant-loop-known l = Contains (take l.known-index l.paths) l.path → ⊥
