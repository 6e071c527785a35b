use Rattle.std.proofs.Common.{◌≡◌, ap, ◌∙◌, refl, arith}
use Rattle.cal_once.specs.declared.view.View.{View}
use Rattle.cal_once.specs.Layout.{times}
use Rattle.cal_once.specs.Views.{all_published}
use Rattle.cal_once.specs.Seats.{plan_of}
use Rattle.cal_once.proofs.Learning.{learns_nothing}
use Rattle.cal_once.proofs.Counts.{sum_below, sum_below-times}
use Rattle.cal_once.proofs.rows.Rows.count.Goals as goal

pub loop-place-init : goal.loop-place-init
loop-place-init g c = record { at = c.requires.seat; hand = refl; learns = learns_nothing c.args.seat.now.me.0; sound = λ h. absurd (omega arith); few = omega arith; known = refl; all = λ h. refl }

pub returns-clause-all : goal.returns-clause-all
returns-clause-all g c joined =
    let inv = c.loop-place.invariant in
    let shape = c.args.self.now.shaped in
    let slots = ap (λ p. p.shape.slots) c.args.self.now.plan_is in
    let homes = shape.some_home in
    let enough = shape.enough_slots in
    let v : View g.row.S.Denot = c.loop-place.seat.me.0 in
    let ends : c.loop-place.place ≡ (plan_of c.args.self.now).shape.slots = omega arith in
    let sound = inv.sound (omega arith) in
    inv.all joined ∙ ap (sum_below (λ p. times p (all_published v))) ends ∙ sum_below-times (all_published v) (plan_of c.args.self.now).shape.slots (λ p h. (sound.once joined p).1 h)
