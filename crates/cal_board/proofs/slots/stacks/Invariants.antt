use Rattle.std.proofs.Common.{◌≡◌, ◌≤◌, vec_len}
use Rattle.std.specs.Prelude.{vec_capacity}
use Rattle.cal_board.proofs.slots.stacks.Given as goal

-- so many were made
abbrev pub invariant-loop-place : goal.invariant-loop-place
invariant-loop-place g l = record {
  made : vec_len l.made ≡ l._place;
  room : l.count ≤ vec_capacity l.made;
}
