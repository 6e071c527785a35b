use Rattle.std.proofs.Common.{◌≡◌, ℕ, length, get_or, None}
use Rattle.cal_treefmt.proofs.ways.nothing_known.Given as goal

abbrev pub invariant-loop-node : goal.invariant-loop-node
invariant-loop-node l = record {
  counted : length l.known.items ≡ l._node;
  none : (k : ℕ) → get_or l.known.items k None ≡ None;
}
