use Rattle.std.proofs.Common.{◌≡◌, ◌<◌, ℕ, [], List, length, slice_index_or, All}
use Rattle.cal_value.specs.WellFormed.{IsPath}
use Rattle.cal_once.specs.Seats.{view}
use Rattle.cal_once.specs.Views.{Learns}
use Rattle.cal_tree.specs.Paths.{NodeEntry, HasPath, entries_of}
use Rattle.cal_tree.specs.Seats.{IsTreeSeat, slots_of}
use Rattle.cal_tree.proofs.tree.Tree.expand.Given as goal

-- the paths so far are those of the nodes so far
abbrev pub invariant-loop-node : goal.invariant-loop-node
invariant-loop-node l = record {
  seat : IsTreeSeat l.self l.seat;
  learns : Learns (view l.fn.seat) (view l.seat);
  count : length l.paths.items ≡ l.node-index;
  paths : (k : ℕ) (path : List NodeEntry) → k < l.node-index
      → HasPath (slots_of l.self) (view l.seat) path (slice_index_or l.snap.refs k (record { 0 = 0 })).0
      → slice_index_or l.paths.items k [] ≡ entries_of l.fn.attrs path;
  are_paths : All IsPath l.paths.items;
}
