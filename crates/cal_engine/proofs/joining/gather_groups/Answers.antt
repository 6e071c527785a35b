use Rattle.std.proofs.Common.{[], get_or, length, subst, ap, ◌∙◌, arith}
use Rattle.cal_keys.specs.Keys.{nth_key}
use Rattle.cal_keys.specs.Moves.{IsMovedKey}
use Rattle.cal_engine.proofs.MergedGroups.{groups_begin, groups_end, groups_next}
use Rattle.cal_engine.proofs.joining.gather_groups.Goals as goal

pub loop-number-init : goal.loop-number-init
loop-number-init c = λ q rs ss h k. groups_begin c.args.room.now q rs ss c.args.groups.now h

pub loop-number-preserved : goal.loop-number-preserved
loop-number-preserved c = λ q rs ss h k.
    let n = c.loop-number.number in
    let others = c.args.others.now in
    groups_next c.args.its.now c.args.room.now c.has_each_once-2.ensures c.has_each_once.ensures q rs ss c.loop-number.groups c.gather_parts.new.self others n
    c.in_ok-key.key _ (omega (arith, c.loop-number-test.true, c.count-number-end.ensures, ap length c.parts-parts.ensures.parts))
    (subst (λ ks. IsMovedKey c.args.its.now c.args.room.now (nth_key ks n) c.in_ok-key.key) c.keys.ensures
    (c.in_ok-key.ensures c.args.its.now c.args.room.now c.requires))
    (c.deref.ensures.value ∙ c.in_ok-own.ensures ∙ ap (λ ps. get_or ps n []) c.parts-parts.ensures.parts)
    k (c.loop-number.invariant q rs ss h k) c.in_ok-gather_parts.ensures

pub returns : goal.returns
returns c = λ q rs ss h k.
    groups_end c.args.its.now c.args.room.now q rs ss c.loop-number.groups c.args.others.now c.loop-number.number
    (omega (arith, c.loop-number-test.false, c.count-number-end.ensures, ap length c.parts-parts.ensures.parts))
    k (c.loop-number.invariant q rs ss h k)
