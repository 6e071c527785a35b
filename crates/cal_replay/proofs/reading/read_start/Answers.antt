use Rattle.std.proofs.Common.{Bool, subst}
use Rattle.cal_notes.specs.Notes.{known_journal}
use Rattle.cal_replay.specs.Workers.{script_of}
use Rattle.cal_run.specs.Lawful.{IsRead}
use Rattle.cal_replay.proofs.reading.read_start.Goals as goal

pub returns-clause-read : goal.returns-clause-read
returns-clause-read g c h =
    let shared = c.args.shared.now in
    subst (λ (due : Bool). IsRead (script_of shared) (known_journal shared.real h) due 0
    c.read_if.result) c.requires.timers.some (c.read_if.ensures.read (script_of shared) h)
