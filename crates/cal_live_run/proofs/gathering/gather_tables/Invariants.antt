use Rattle.std.proofs.Common.{reverse, vec_len}
use Rattle.cal_channel.specs.Places.{lists_of}
use Rattle.cal_live_run.proofs.LeftTables.{AreLeft}
use Rattle.cal_live_run.proofs.gathering.gather_tables.Given as goal

-- the tables behind those that are left stand beside what was left for them
abbrev pub invariant-loop-table : goal.invariant-loop-table
invariant-loop-table l = AreLeft l.fn.tables.items (lists_of l.fn.channels) l.tables.items
    (lists_of l.channels) (lists_of (reverse l.alls.items))

abbrev pub decreases-loop-table : goal.decreases-loop-table
decreases-loop-table l = vec_len l.tables
