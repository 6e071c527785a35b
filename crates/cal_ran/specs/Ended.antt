-- What a whole run leaves.
use Rattle.std.specs.Prelude.{◌≡◌}
use Rattle.cal_channel.specs.Places.{lists_of}
use Rattle.cal_delivery.specs.Taken.{IsTaken}
use Rattle.cal_ran.specs.declared.ended.EndedRun.{EndedRun}
use Rattle.cal_replay.specs.Workers.{script_of}
use Rattle.cal_run.specs.Lawful.{Lawful}
use Rattle.cal_run.specs.Runs.{snapshots}
use Rattle.cal_script.specs.Shapes.{tree_shape}
use Rattle.cal_script.specs.Valid.{IsRunnable}
use Rattle.cal_script.specs.declared.script.Script.{Script}
use Rattle.cal_tree.specs.Seats.{IsTreeSeat, plan_of}

-- A run of the script, whose tree has the layout of the script, has ended: its journal is lawful,
-- and by it the channels and the tables have the snapshots that the plain meaning of a run gives,
-- as the seat at the tree knows.
pub record IsEnded (script : Script) (ended : EndedRun) : Type 0 where
  pub script_is : script_of ended.shared ≡ script
  pub runnable : IsRunnable script
  pub layout : (plan_of ended.shared.common.tree).shape ≡ tree_shape script
  pub seat : IsTreeSeat ended.shared.common.tree ended.tree
  pub lawful : Lawful script ended.journal
  pub taken : IsTaken script ended.shared.common.tree ended.tree ended.context
      (snapshots script ended.journal) (lists_of ended.channels.items) (lists_of ended.tables.items)
