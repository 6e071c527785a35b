-- Runs that have ended, as their rows are asked for.
use Rattle.std.proofs.Common.{◌≡◌, List, subst, sym}
use Rattle.cal_channel.specs.Places.{lists_of}
use Rattle.cal_channel.specs.Values.{ChannelValue}
use Rattle.cal_delivery.specs.Taken.{IsTaken}
use Rattle.cal_ran.specs.Ended.{IsEnded}
use Rattle.cal_ran.specs.declared.ended.EndedRun.{EndedRun}
use Rattle.cal_replay.specs.Workers.{script_of}
use Rattle.cal_run.specs.Runs.{snapshots}
use Rattle.cal_script.specs.declared.script.Script.{Script}
use Rattle.cal_table.specs.Tables.{TableValue}

-- a run of a script is one of the script that its threads shared
pub by-own-script : (script : Script) (ended : EndedRun) → IsEnded script ended
    → IsEnded (script_of ended.shared) ended
by-own-script script ended is =
    subst (λ (s : Script). IsEnded s ended) (sym is.script_is) is

-- what was taken in a run, by its channels and tables as they are lent
pub taken-lent : (ended : EndedRun) (channels : List (List ChannelValue))
    (tables : List (List TableValue)) → IsEnded (script_of ended.shared) ended
    → channels ≡ lists_of ended.channels.items → tables ≡ lists_of ended.tables.items
    → IsTaken (script_of ended.shared) ended.shared.common.tree ended.tree ended.context
    (snapshots (script_of ended.shared) ended.journal) channels tables
taken-lent ended channels tables is channels_are tables_are =
    subst (λ (ts : List (List TableValue)).
    IsTaken (script_of ended.shared) ended.shared.common.tree ended.tree ended.context
    (snapshots (script_of ended.shared) ended.journal) channels ts) (sym tables_are)
    (subst (λ (cs : List (List ChannelValue)).
    IsTaken (script_of ended.shared) ended.shared.common.tree ended.tree ended.context
    (snapshots (script_of ended.shared) ended.journal) cs (lists_of ended.tables.items))
    (sym channels_are) is.taken)
