use Rattle.std.proofs.Common.{◌≡◌, Bool, true, ◌&&◌, if◌then◌else◌, List, [], ◌∷◌, ap, subst}
use Rattle.std.proofs.Common.{sym, ◌∙◌}
use Rattle.cal_channel.specs.Channels.{TakesMore}
use Rattle.cal_run.specs.Lines.{operation_of, takes}
use Rattle.cal_run.specs.Snapshots.{snapshot_of}
use Rattle.cal_value.specs.declared.record.Rec.{Rec}
use Rattle.cal_channel.proofs.channel.ThreadChannel.take_if.Goals as goal

pub returns-in_ok-take-clause-takes : goal.returns-in_ok-take-clause-takes
returns-in_ok-take-clause-takes g c attributes s named shows =
    let script = c.args.script.now in
    let channel = c.args.channel.now in
    let nodes = c.args.nodes.now in
    let line = c.args.line in
    let is : (c.args.accepted && takes script channel line) ≡ true =
    sym c.is_taking.ensures ∙ c.if-is_taking.true in
    subst (λ (recs : List Rec). TakesMore attributes script nodes.tree.now nodes.seat.now
    c.args.self.now c.take.new.self recs)
    (ap (λ op. snapshot_of script s channel op ∷ []) c.operation_of-op.ensures
    ∙ ap (λ (t : Bool). if t then snapshot_of script s channel (operation_of line) ∷ [] else [])
    (sym is))
    (c.in_ok-take.ensures.takes attributes s named shows)
