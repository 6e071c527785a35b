use Rattle.std.proofs.Common.{arith, get_or, refl, slice_set, subst, sym}
use Rattle.cal_filter.specs.Replaced.{CatchesUp}
use Rattle.cal_filter.proofs.Zips.{replace_all, replace_next}
use Rattle.cal_filter.proofs.operands.catch_up_all.Goals as goal

pub loop-seeker-preserved : goal.loop-seeker-preserved
loop-seeker-preserved c =
    let t = c.args.context.now in
    let seekers = c.loop-seeker.seekers in
    let i = c.loop-seeker.seeker-index in
    let new = c.catch_up.new.self in
    let up : CatchesUp t (get_or seekers i c.seeker-item.result) new =
    record { same = c.in_ok-catch_up.ensures.same; knows = c.in_ok-catch_up.ensures.knows } in
    replace_next (CatchesUp t) c.args.seekers.now seekers (slice_set seekers i new) i c.seeker-item.result new
    c.loop-seeker.invariant (omega arith) c.seeker-item.is refl
    (subst (λ x. CatchesUp t x new) (sym c.seeker-item.is) up)

pub returns : goal.returns
returns c =
    replace_all (CatchesUp c.args.context.now) c.args.seekers.now c.loop-seeker.seekers c.loop-seeker.seeker-index
    c.loop-seeker.invariant (omega arith)
