-- How the threads of a run come to their seats.
use Rattle.std.specs.Prelude.{◌≡◌, ℕ, length}
use Rattle.cal_once.specs.Seats.{view}
use Rattle.cal_once.specs.declared.seat.RowSeat.{RowSeat}
use Rattle.cal_plog.specs.Seats.{IsLogSeat}
use Rattle.cal_process.specs.declared.common.Common.{Common}
use Rattle.cal_tree.specs.Seats.{IsTreeSeat}
use Rattle.cal_words.specs.declared.sort.NodeSort.{NodeSort}
use Rattle.cal_words.specs.declared.sort.OpSort.{OpSort}

-- These are the first seats, of which so many others were split off.
pub record HasHired (common : Common) (tree : RowSeat NodeSort) (log : RowSeat OpSort)
    (count : ℕ) : Type 0 where
  pub at_tree : IsTreeSeat common.tree tree
  pub first_tree : (view tree).number ≡ 0
  pub tree_others : length (view tree).others ≡ count
  pub at_log : IsLogSeat common.log log
  pub first_log : (view log).number ≡ 0
  pub log_others : length (view log).others ≡ count
