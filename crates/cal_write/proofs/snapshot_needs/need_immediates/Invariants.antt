use Rattle.std.proofs.Common.{◌≤◌, length, take}
use Rattle.cal_write.specs.SnapshotNeeds.{NeedsImmediates}
use Rattle.cal_write.proofs.snapshot_needs.need_immediates.Given as goal

-- what the immediates so far need is there, with their ids
abbrev pub invariant-loop-place : goal.invariant-loop-place
invariant-loop-place l = record {
  room : length l.imms ≤ length l.ids.items;
  needs : NeedsImmediates l.context l.fn.writer l.writer (take l.place l.imms)
      (take l.place l.ids.items);
}
