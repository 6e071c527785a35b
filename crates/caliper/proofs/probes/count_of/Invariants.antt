use Rattle.std.proofs.Common.{◌≡◌, ◌*◌, ◌≤◌, take}
use Rattle.std.specs.Prelude.{sum}
use Rattle.caliper.proofs.probes.count_of.Given as goal

-- the depths so far are added up
abbrev pub invariant-loop-depth : goal.invariant-loop-depth
invariant-loop-depth l = record {
  small : l.count ≤ l.depth-index * 4294967296;
  added : l.count ≡ sum (take l.depth-index l.depths);
}
