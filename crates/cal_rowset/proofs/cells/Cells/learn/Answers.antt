use Rattle.std.proofs.Common.{[], arith}
use Rattle.cal_rowset.proofs.Filling.{Holds-learn_new, Holds-learn_known}
use Rattle.cal_rowset.proofs.Trails.{GoesBack-new}
use Rattle.cal_rowset.proofs.cells.Cells.learn.Goals as goal

pub returns-in_ok-push-clause-holds : goal.returns-in_ok-push-clause-holds
returns-in_ok-push-clause-holds c =
    λ entries holds. rw c.in_ok-push.ensures.items
    (Holds-learn_new _ _ _ entries holds c.args.name.now c.new.result _ c.in_ok-place.place c.in_ok-place.ensures.learned (omega arith) c.new.ensures)

pub returns-else-place-len-clause-holds : goal.returns-else-place-len-clause-holds
returns-else-place-len-clause-holds c =
    λ entries holds. Holds-learn_known _ _ _ entries holds c.args.name.now _ c.in_ok-place.place c.in_ok-place.ensures.learned (λ is. omega arith)

pub returns-in_ok-push-clause-trail : goal.returns-in_ok-push-clause-trail
returns-in_ok-push-clause-trail c =
    λ trail. rw c.in_ok-push.ensures.items
    (GoesBack-new _ _ _ _ _ _ trail
    (λ holds. Holds-learn_new _ _ _ [] holds c.args.name.now c.new.result _ c.in_ok-place.place c.in_ok-place.ensures.learned (omega arith) c.new.ensures))

pub returns-else-place-len-clause-trail : goal.returns-else-place-len-clause-trail
returns-else-place-len-clause-trail c =
    λ trail. GoesBack-new _ _ _ _ _ _ trail
    (λ holds. Holds-learn_known _ _ _ [] holds c.args.name.now _ c.in_ok-place.place c.in_ok-place.ensures.learned (λ is. omega arith))
