use Rattle.std.proofs.Common.{◌≡◌, ℕ, ◌<◌, ◌≤◌, false, length, get_or}
use Rattle.cal_context.specs.Snapshots.{entry_of}
use Rattle.cal_context.specs.declared.snapshot.Immediate.{Immediate}
use Rattle.cal_filter.specs.Known.{KnowsAll, sought}
use Rattle.cal_filter.specs.Sought.{seeks}
use Rattle.cal_filter.proofs.seeker.Seeker.last_immediate.Given as goal

-- none from this place on
abbrev pub invariant-loop-place : goal.invariant-loop-place
invariant-loop-place l = KnowsAll l.context l.self → (i : ℕ) (x : Immediate) → l.place ≤ i
    → i < length l.imms → seeks (sought l.self) (entry_of l.context (get_or l.imms i x)) ≡ false
