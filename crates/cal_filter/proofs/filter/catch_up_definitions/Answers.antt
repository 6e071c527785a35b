use Rattle.std.proofs.Common.{arith, refl, slice_set, subst, sym}
use Rattle.cal_filter.specs.Replaced.{CatchesUpByNumbers}
use Rattle.cal_filter.proofs.Zips.{replace_all, replace_next}
use Rattle.cal_filter.proofs.filter.catch_up_definitions.Goals as goal

pub loop-definition-preserved : goal.loop-definition-preserved
loop-definition-preserved c =
    let t = c.args.context.now in
    let l = c.args.latest.now in
    let now = c.loop-definition.definitions in
    let i = c.loop-definition.definition-index in
    let new = c.catch_up.new.self in
    replace_next (CatchesUpByNumbers t l) c.args.definitions.now now (slice_set now i new) i
    c.definition-item.result new c.loop-definition.invariant (omega arith) c.definition-item.is refl
    (subst (λ x. CatchesUpByNumbers t l x new) (sym c.definition-item.is) c.in_ok-catch_up.ensures)

pub returns : goal.returns
returns c =
    replace_all (CatchesUpByNumbers c.args.context.now c.args.latest.now) c.args.definitions.now
    c.loop-definition.definitions c.loop-definition.definition-index c.loop-definition.invariant
    (omega arith)
