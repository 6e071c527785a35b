use Rattle.std.proofs.Common.{ap}
use Rattle.std.proofs.lemmas.Result.{on_ok_weaker}
use Rattle.cal_channel.specs.Places.{lists_of}
use Rattle.cal_ran.proofs.EndedRuns.{taken-lent}
use Rattle.cal_replay.specs.Workers.{script_of}
use Rattle.cal_run.specs.Runs.{snapshots}
use Rattle.cal_ran.proofs.ended.EndedRun.take_rows.Goals as goal

pub take_rows-requires-clause-taken : goal.take_rows-requires-clause-taken
take_rows-requires-clause-taken g c =
    let ended = c.args.self.now in (
      snapshots (script_of ended.shared) ended.journal,
      taken-lent ended _ _ c.requires.ended (ap lists_of c.as_slice.ensures.value)
          (ap lists_of c.as_slice-2.ensures.value),
    )

pub returns-clause-taken : goal.returns-clause-taken
returns-clause-taken g c =
    let ended = c.args.self.now in
    on_ok_weaker c.take_rows.result
    (λ all. all (snapshots (script_of ended.shared) ended.journal)
    (taken-lent ended _ _ c.requires.ended (ap lists_of c.as_slice.ensures.value)
    (ap lists_of c.as_slice-2.ensures.value))) c.take_rows.ensures.taken
