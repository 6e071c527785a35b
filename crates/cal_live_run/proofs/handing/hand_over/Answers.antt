use Rattle.std.proofs.Common.{◌≡◌, true}
use Rattle.std.specs.Prelude.{is_some}
use Rattle.std.specs.Vec.Iter.{into_iter_items}
use Rattle.cal_live_run.proofs.NextItem.{next-has}
use Rattle.cal_live_run.proofs.handing.hand_over.Goals as goal
use Rattle.cal_live_run.proofs.handing.hand_over.Goals.{In-Some}

-- the next runner's sender has ended
next : (g : _) (c : In-Some g) → is_some c.in-Some.runner.channels.hand.ended ≡ true
next g c =
    next-has c.args.runners.items c.loop-runner.yielded (into_iter_items c.next.new.self)
    c.in-Some.runner (rw (← c.in-Some.ensures.steps.0) c.loop-runner.invariant.whole)
    (λ r. is_some r.channels.hand.ended ≡ true) c.requires.ended

pub add-requires : goal.add-requires
add-requires g c = record { ended = next g (goal.at.add-requires g c).In-Some }
