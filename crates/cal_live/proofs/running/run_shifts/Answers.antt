use Rattle.std.proofs.Common.{List, length, arith}
use Rattle.std.proofs.Common.{ap, ◌∙◌, subst, sym}
use Rattle.cal_crew.proofs.EachRun.{lent-back}
use Rattle.cal_crew.specs.declared.shift.Shift.{Shift}
use Rattle.cal_live.specs.Ran.{HaveShiftedAndEnded}
use Rattle.cal_live.specs.declared.sending.SenderHand.{SenderHand}
use Rattle.cal_live.proofs.running.run_shifts.Goals as goal

pub returns-clause-many : goal.returns-clause-many
returns-clause-many g c =
    let vec = c.args.shifts in
    let new = c.run_all.new.shifts in
    let value = c.as_mut_slice.ensures.value in
    let ok = vec.ok.0 in
    ap length (lent-back vec.items c.as_mut_slice.result.now new vec.len value
    (omega (arith, ok)) c.run_all.ensures.many) ∙ c.run_all.ensures.many ∙ ap length value

pub returns-clause-ran : goal.returns-clause-ran
returns-clause-ran g c =
    let vec = c.args.shifts in
    let new = c.run_all.new.shifts in
    let value = c.as_mut_slice.ensures.value in
    let ok = vec.ok.0 in
    let back = lent-back vec.items c.as_mut_slice.result.now new vec.len value
    (omega (arith, ok)) c.run_all.ensures.many in
    let given = g.K.Clock.given in
    let shapes = g.S.Shapes.shapes in
    let shared = c.args.shared.now in
    subst (λ (ss : List (Shift g.row.P.Denot (SenderHand g.row.Q.Denot g.row.S.Denot)
    g.row.K.Denot)). HaveShiftedAndEnded shapes shared given vec.items ss) (sym back)
    (subst (λ (ss : List (Shift g.row.P.Denot (SenderHand g.row.Q.Denot g.row.S.Denot)
    g.row.K.Denot)). HaveShiftedAndEnded shapes shared given ss new) value c.run_all.ensures.ran)
