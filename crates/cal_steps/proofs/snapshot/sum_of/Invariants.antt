use Rattle.std.proofs.Common.{◌≡◌, ◌*◌, ◌≤◌, take}
use Rattle.std.specs.Prelude.{sum}
use Rattle.cal_steps.proofs.snapshot.sum_of.Given as goal

-- the depths so far are added up
abbrev pub invariant-loop-depth : goal.invariant-loop-depth
invariant-loop-depth l = record {
  small : l.sum ≤ l.depth-index * 4294967296;
  added : l.sum ≡ sum (take l.depth-index l.depths);
}
