use Rattle.std.proofs.Common.{Bool, ◌&&◌, ap, sym, ◌∙◌}
use Rattle.std.specs.List.{list_any}
use Rattle.cal_run.proofs.TimerLemmas.{read-accepted}
use Rattle.cal_run.specs.Lines.{takes}
use Rattle.cal_script.specs.declared.script.Channel.{Channel}
use Rattle.cal_run.proofs.timers.Timers.is_read.Goals as goal

pub returns-else-accepted : goal.returns-else-accepted
returns-else-accepted c =
    let script = c.args.script.now in
    c.if-accepted.false
    ∙ sym (ap (λ (b : Bool). b && list_any
    (λ (channel : Channel). channel.timer && takes script channel c.args.line) script.channels)
    c.if-accepted.false)
    ∙ read-accepted script c.args.accepted c.args.line
