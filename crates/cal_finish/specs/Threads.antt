-- What is known of the threads of a run once their seats are joined.
use Rattle.std.specs.Prelude.{◌≡◌, ℕ, List, Some, slice_get}
use Rattle.cal_notes.specs.Together.{Begins}
use Rattle.cal_once.specs.Seats.{view}
use Rattle.cal_once.specs.Views.{KnowsMore}
use Rattle.cal_once.specs.declared.seat.RowSeat.{RowSeat}
use Rattle.cal_process.specs.Operations.{history_of}
use Rattle.cal_process.specs.declared.common.Common.{Common}
use Rattle.cal_run.specs.Steps.{ThreadState}
use Rattle.cal_script.specs.declared.journal.Placed.{Placed}
use Rattle.cal_thread.specs.Threads.{IsThread}
use Rattle.cal_thread.specs.declared.thread.Thread.{Thread}
use Rattle.cal_words.specs.declared.op.OpRec.{OpRec}
use Rattle.cal_words.specs.declared.sort.NodeSort.{NodeSort}

-- A history is whole for these threads: what each has seen begins it, and behind that no operation
-- is the thread's.
abbrev pub IsWholeFor : Common → List Thread → List Placed → Type 0
IsWholeFor common threads history = (place : ℕ) (t : Thread) (done : ℕ) (h : List OpRec)
    (state : ThreadState) → slice_get threads place ≡ Some t → IsThread common t done h state
    → Begins t.number (history_of h) history

-- a seat at the tree knows what the thread's seat knew of it
abbrev pub KnowsNodesOf : RowSeat NodeSort → Thread → Type 0
KnowsNodesOf tree t = KnowsMore (view t.tree) (view tree)
