use Rattle.std.proofs.Common.{◌≡◌, ◌+◌, ◌≤◌}
use Rattle.cal_steps.proofs.node_board.node_place.Given as goal
use Rattle.cal_steps.specs.NodePlaces.{needing}

-- those so far that need a node, and those left, are as many as were asked for
abbrev pub invariant-loop-place : goal.invariant-loop-place
invariant-loop-place l = record {
  late : l.from ≤ l.place;
  counted : needing l.script l.journal l.history l.from l.place + l.left ≡ l.count;
}
