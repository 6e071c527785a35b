use Rattle.std.proofs.Common.{◌≡◌, take}
use Rattle.std.specs.Prelude.{flat_map}
use Rattle.std.specs.List.{enumerate_from}
use Rattle.cal_steps.proofs.world.World.rows.Given as goal
use Rattle.cal_steps.specs.Rows.{rows_at}

-- the rows of the channels so far
abbrev pub invariant-loop-place : goal.invariant-loop-place
invariant-loop-place l =
    l.rows ≡ flat_map (rows_at l.self) (enumerate_from 0 (take l.place l.channels))
