use Rattle.std.proofs.Common.{◌≡◌, ◌≤◌, length, take}
use Rattle.cal_engine.proofs.gate.put_nodes.Given as goal

abbrev pub invariant-loop-place : goal.invariant-loop-place
invariant-loop-place l = record {
  front : take l.place l.nodes.items ≡ take l.place l.others;
  low : l.place ≤ length l.nodes.items;
  high : length l.nodes.items ≤ length l.others;
}
