-- The room that a run's history and its tree have, and what a seat must keep so that no append and
-- no node is refused.
use Rattle.std.specs.Prelude.{◌≡◌, ◌≤◌, ℕ, ◌+◌, ◌*◌, List, [], length, slice_index_or, sum_by, take}
use Rattle.std.specs.List.{Contains}
use Rattle.cal_once.specs.declared.view.View.{View}
use Rattle.cal_plog.specs.History.{OwnBefore}
use Rattle.cal_plog.specs.Seats.{ops_of, slots_of}
use Rattle.cal_process.specs.Operations.{own_words, words_made, words_of_ops}
use Rattle.cal_process.specs.declared.common.Common.{Common}
use Rattle.cal_run.specs.declared.operation.Operation.{Operation}
use Rattle.cal_script.specs.Shapes.{tree_arena}
use Rattle.cal_value.specs.declared.variant.Variant.{Variant}
use Rattle.cal_words.specs.Words.{node_length}
use Rattle.cal_words.specs.declared.op.OpRec.{OpRec}
use Rattle.cal_words.specs.declared.sort.NodeSort.{NodeSort}
use Rattle.cal_words.specs.declared.sort.OpSort.{OpSort}

-- ---- the history

-- The seat has seven words in use for each operation that it appended.
abbrev pub UsesSevenEach : View OpSort → Type 0
UsesSevenEach v = v.used ≡ 7 * length v.published

-- The seat may append the operation: it is a process line's of the seat's thread, of a later line
-- than all that the seat appended.
pub record MayAppend (common : Common) (v : View OpSort) (op : OpRec) : Type 0 where
  pub among : Contains (ops_of common.log) op
  pub thread : v.number ≡ op.thread + 1
  pub line : OwnBefore (slots_of common.log) v op.line
  pub words : UsesSevenEach v

-- ---- the tree

-- A seat's arena has room for the node of a value.
abbrev pub HasRoomFor : Common → View NodeSort → Variant → Type 0
HasRoomFor common v value = v.used + node_length value ≤ tree_arena common.script.now

-- It has room for the node that an operation may make.
abbrev pub HasRoomToDo : Common → View NodeSort → Operation → Type 0
HasRoomToDo common v op =
    v.used + words_made common.script.now op ≤ tree_arena common.script.now

-- The words that a thread's seat has in use are at most those of the nodes that the operations make
-- which the thread has seen, and that the lines make which it has done and which are its own.
abbrev pub UsesAtMost : Common → View NodeSort → List OpRec → (thread done : ℕ) → Type 0
UsesAtMost common v h thread done = v.used ≤ words_of_ops common.script.now h
    + sum_by (own_words common.script.now)
    (take done (slice_index_or common.script.now.threads thread []))
