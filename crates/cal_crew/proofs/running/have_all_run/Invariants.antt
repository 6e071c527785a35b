use Rattle.std.proofs.Common.{◌≡◌, true, All, take}
use Rattle.cal_crew.proofs.running.have_all_run.Given as goal

-- those so far have run
abbrev pub invariant-loop-shift : goal.invariant-loop-shift
invariant-loop-shift g l = All (λ s. s.ran ≡ true) (take l.shift-index l.shifts)
