-- What a thread learns by operations one after another.
use Rattle.std.specs.Prelude.{◌≡◌, ◌⊎◌, ℕ, List, [], ◌∷◌, ◌++◌}
use Rattle.cal_once.specs.Seats.{view}
use Rattle.cal_once.specs.Views.{KnowsMore}
use Rattle.cal_once.specs.declared.seat.RowSeat.{RowSeat}
use Rattle.cal_once.specs.declared.view.View.{View}
use Rattle.cal_plog.specs.Seats.{slots_of}
pub use Rattle.cal_process.specs.Operations.{words_of_ops}
use Rattle.cal_process.specs.Replicas.{AddsWords, HasTaken}
use Rattle.cal_process.specs.Rooms.{UsesAtMost}
use Rattle.cal_process.specs.declared.common.Common.{Common}
use Rattle.cal_process.specs.declared.replica.Replica.{Replica}
use Rattle.cal_words.specs.declared.op.OpRec.{OpRec}
use Rattle.cal_words.specs.declared.sort.NodeSort.{NodeSort}
use Rattle.cal_words.specs.declared.sort.OpSort.{OpSort}

-- A replica has seen exactly these operations, and the tree has room for the nodes of all that are
-- still to come: the seat uses no more words than these make and the lines that its thread has done.
pub record MayTake (common : Common) (seat : RowSeat NodeSort) (p : Replica) (h : List OpRec)
    : Type 0 where
  pub taken : HasTaken common seat p h
  pub thread : ℕ
  pub done : ℕ
  pub uses : UsesAtMost common (view seat) h thread done

-- a seat has learned, and published nothing: all but its draft, its words and its looks stays
pub record OnlyLearns (v w : View OpSort) : Type 0 where
  pub number : w.number ≡ v.number
  pub used : w.used ≡ v.used
  pub published : w.published ≡ v.published
  pub others : w.others ≡ v.others
  pub more : KnowsMore v w

-- nothing was found empty
abbrev pub KeepsLooks : Replica → Replica → Type 0
KeepsLooks old new = (view new.log).looks ≡ (view old.log).looks

-- More operations were taken in: those that stand next in the history.
pub record TakesMore (common : Common) (was is : RowSeat NodeSort) (old new : Replica)
    (h : List OpRec) : Type 0 where
  pub ops : List OpRec
  pub learns : OnlyLearns (view old.log) (view new.log)
  pub taken : HasTaken common is new (h ++ ops)
  pub words : AddsWords common was is (words_of_ops common.script.now ops)

-- And the slot behind them was found empty, or there are no more.
pub record TakesAll (common : Common) (was is : RowSeat NodeSort) (old new : Replica)
    (h : List OpRec) : Type 0 where
  pub more : TakesMore common was is old new h
  pub end : (new.seen ≡ slots_of common.log)
      ⊎ ((view new.log).looks ≡ (view old.log).looks ++ new.seen ∷ [])
