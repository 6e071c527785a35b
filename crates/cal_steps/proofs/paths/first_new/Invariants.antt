use Rattle.std.proofs.Common.{take}
use Rattle.cal_events.specs.Keeping.{HasPaths}
use Rattle.cal_steps.proofs.paths.first_new.Given as goal

-- those so far are there
abbrev pub invariant-loop-path : goal.invariant-loop-path
invariant-loop-path l = HasPaths l.paths (take l.path-index l.held)
