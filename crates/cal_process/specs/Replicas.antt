-- What a thread knows of the process, and what it learns by one operation more.
use Rattle.std.specs.Prelude.{◌≡◌, ◌⊎◌, ℕ, ◌+◌, ◌<◌, ◌≤◌, List, [], ◌∷◌, ◌++◌, length, All, Bool}
use Rattle.std.specs.Prelude.{true, false}
use Rattle.cal_once.specs.Seats.{view}
use Rattle.cal_once.specs.Steps.{WasEmpty}
use Rattle.cal_once.specs.Views.{Learns, noting}
use Rattle.cal_once.specs.declared.seat.RowSeat.{RowSeat}
use Rattle.cal_plog.specs.History.{HasOp, HasSeen}
use Rattle.cal_plog.specs.Seats.{IsLogSeat, ops_of, plan_of, slots_of}
use Rattle.cal_process.specs.Boards.{Held}
use Rattle.cal_process.specs.Operations.{HasAll, IsOpOf, history_of, operation_in, words_made}
use Rattle.cal_process.specs.Rooms.{UsesSevenEach}
use Rattle.cal_process.specs.declared.common.Common.{Common}
use Rattle.cal_process.specs.declared.replica.Replica.{Replica}
use Rattle.cal_run.specs.History.{process_board}
use Rattle.cal_script.specs.Shapes.{history_shape, tree_shape}
use Rattle.cal_script.specs.Valid.{IsRunnable}
use Rattle.cal_tree.specs.Seats as tree
use Rattle.cal_tree.specs.Seats.{IsTreeSeat}
use Rattle.cal_words.specs.declared.op.OpRec.{OpRec}
use Rattle.cal_words.specs.declared.sort.NodeSort.{NodeSort}

-- The script can be run, and the history was made for the operations of its process lines; it and
-- the tree have the room that the script's lines need.
pub record IsCommon (common : Common) : Type 0 where
  pub runnable : IsRunnable common.script.now
  pub ops : All (IsOpOf common.script.now) (ops_of common.log)
  pub all : HasAll common.script.now (ops_of common.log)
  pub shape_of_log : (plan_of common.log).shape ≡ history_shape common.script.now
  pub shape_of_tree : (tree.plan_of common.tree).shape ≡ tree_shape common.script.now

module _ (common : Common) where
  -- A replica has seen exactly these operations, with which the history begins, and its board is
  -- the process's behind them. Of the history's words its seat uses those of its own operations.
  pub record HasTaken (seat : RowSeat NodeSort) (p : Replica) (h : List OpRec) : Type 0 where
    pub at_tree : IsTreeSeat common.tree seat
    pub at_log : IsLogSeat common.log p.log
    pub read : HasSeen (slots_of common.log) (view p.log) h
    pub long : length h ≡ p.seen
    pub words : UsesSevenEach (view p.log)
    pub held : Held common seat p.board (process_board common.script.now (history_of h) p.seen)

  -- the words that the seat has in use in the tree have grown by at most so many
  abbrev pub AddsWords : (was is : RowSeat NodeSort) → ℕ → Type 0
  AddsWords was is words = (view is).used ≤ (view was).used + words

  -- One operation more was taken in, which the history has there.
  pub record TakesOne (was is : RowSeat NodeSort) (old new : Replica) (h : List OpRec)
      : Type 0 where
    pub op : OpRec
    pub has_op : HasOp (slots_of common.log) (view new.log) old.seen op
    pub learns : Learns (view old.log) (view new.log)
    pub taken : HasTaken is new (h ++ op ∷ [])
    pub words : AddsWords was is (words_made common.script.now (operation_in op))

  -- None was there: the slot was found empty, which the seat has noted, or there are no more slots.
  pub record TakesNone (was is : RowSeat NodeSort) (old new : Replica) (h : List OpRec)
      : Type 0 where
    pub end : ((old.seen ≡ slots_of common.log) × (view new.log ≡ view old.log))
        ⊎ ((old.seen < slots_of common.log)
        × WasEmpty (plan_of common.log) (view old.log) old.seen
        × Learns (noting old.seen (view old.log)) (view new.log))
    pub taken : HasTaken is new h
    pub seat : is ≡ was

  abbrev pub Takes : (was is : RowSeat NodeSort) → (old new : Replica) → List OpRec → Bool
      → Type 0
  Takes was is old new h true = TakesOne was is old new h
  Takes was is old new h false = TakesNone was is old new h
