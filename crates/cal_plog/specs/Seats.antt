use Rattle.std.specs.Prelude.{ℕ, List}
use Rattle.cal_words.specs.declared.op.OpRec.{OpRec}
use Rattle.cal_words.specs.declared.sort.OpSort.{OpSort}
use Rattle.cal_words.specs.declared.sort.RecSort.{Ghosts as RecSort}
use Rattle.cal_words.specs.Records.{IsOp, OwnsOp, IsOp-long}
use Rattle.cal_once.specs.declared.seat.RowSeat.{RowSeat}
use Rattle.cal_once.specs.declared.view.Plan.{Plan}
use Rattle.cal_once.specs.Seats as rows
use Rattle.cal_once.specs.Seats.{IsSeatOf, view}
use Rattle.cal_once.specs.Sound.{IsSound}
use Rattle.cal_plog.specs.declared.log.PLog.{PLog}

-- the sort of the history's records
abbrev pub op_law : RecSort OpSort
op_law = record {
  is_record = λ sort words. IsOp sort.ops words;
  home_of = λ _ _. 0;
  may_publish = λ _ number words. OwnsOp number words;
  has_parent = λ sort. IsOp-long sort.ops;
}

-- the shape of a history, with its sort
abbrev pub plan_of : PLog → Plan OpSort
plan_of log = rows.plan_of log.rows

abbrev pub slots_of : PLog → ℕ
slots_of log = (plan_of log).shape.slots

-- the operations that may be appended
abbrev pub ops_of : PLog → List OpRec
ops_of log = (plan_of log).sort.ops

-- the seat is one of this history's, and what it knows is sound: each call keeps this
pub record IsLogSeat (log : PLog) (seat : RowSeat OpSort) : Type 0 where
  pub at : IsSeatOf log.rows seat
  pub sound : IsSound op_law (plan_of log) (view seat)
