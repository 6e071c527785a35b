-- What the first seats know of a thread whose seats they took in.
use Rattle.std.specs.Prelude.{◌≡◌, ℕ, ◌<◌, List, Some, length, slice_get, slice_index_or}
use Rattle.cal_once.specs.Seats.{view}
use Rattle.cal_once.specs.Views.{KnowsMore}
use Rattle.cal_once.specs.declared.seat.RowSeat.{RowSeat}
use Rattle.cal_plog.specs.History.{HasJoined}
use Rattle.cal_thread.specs.declared.thread.Thread.{Thread}
use Rattle.cal_words.specs.declared.sort.NodeSort.{NodeSort}
use Rattle.cal_words.specs.declared.sort.OpSort.{OpSort}

-- They know what its seats knew, of the history and of the tree, and which places the thread
-- published there.
pub record IsJoined (tree : RowSeat NodeSort) (log : RowSeat OpSort) (t : Thread) : Type 0 where
  pub placed : HasJoined (view log) t.number (view t.process.log).published
  pub made : slice_get (view tree).others t.number ≡ Some (Some (view t.tree).published)
  pub history : KnowsMore (view t.process.log) (view log)
  pub nodes : KnowsMore (view t.tree) (view tree)

-- the threads of a run, in the order of their numbers
abbrev pub AreInOrder : List Thread → Type 0
AreInOrder ts = (k : ℕ) (d : Thread) → k < length ts → (slice_index_or ts k d).number ≡ k
