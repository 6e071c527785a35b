use Rattle.std.proofs.Common.{Bool, ◌&&◌, ap, sym, ◌∙◌}
use Rattle.cal_run.proofs.TimerLemmas.{read-else}
use Rattle.cal_run.specs.Lines.{is_event, is_such, operation_of}
use Rattle.cal_run.proofs.timers.Timers.may_read.Goals as goal

pub returns-then-self : goal.returns-then-self
returns-then-self c =
    let script = c.args.script.now in
    c.is_event.ensures
    ∙ sym (ap (λ (b : Bool). b && is_such (is_event script) (operation_of c.args.line))
    c.if-self.true)
    ∙ read-else script c.args.self c.requires c.args.line c.in_default.not-Snapshot

pub returns-else-self : goal.returns-else-self
returns-else-self c =
    let script = c.args.script.now in
    c.if-self.false
    ∙ sym (ap (λ (b : Bool). b && is_such (is_event script) (operation_of c.args.line))
    c.if-self.false)
    ∙ read-else script c.args.self c.requires c.args.line c.in_default.not-Snapshot
