use Rattle.std.proofs.Common.{◌∙◌, ◌&&◌, Bool, ap, subst}
use Rattle.std.specs.List.{list_any}
use Rattle.cal_notes.specs.Notes.{known_journal}
use Rattle.cal_replay.specs.Workers.{script_of}
use Rattle.cal_run.specs.Lawful.{IsRead}
use Rattle.cal_run.specs.Lines.{takes}
use Rattle.cal_script.specs.declared.script.Channel.{Channel}
use Rattle.cal_replay.proofs.reading.read_line.Goals as goal

pub returns-clause-read : goal.returns-clause-read
returns-clause-read g c h =
    let shared = c.args.shared.now in
    let script = script_of shared in
    subst (λ (due : Bool). IsRead script (known_journal shared.real h) due c.args.shown
    c.read_if.result)
    (c.is_read-due.ensures
    ∙ ap (λ (b : Bool). list_any (λ (channel : Channel).
    channel.timer && (b && takes script channel c.args.line)) script.channels)
    c.is_accepted-accepted.ensures) (c.read_if.ensures.read script h)
