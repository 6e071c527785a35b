use Rattle.std.proofs.Common.{arith, refl, ◌∙◌}
use Rattle.std.proofs.lemmas.List.{length-set}
use Rattle.cal_context.proofs.CallerLemmas.{Grows-trans}
use Rattle.cal_filter.proofs.ResultLemmas.{numbered_next}
use Rattle.cal_filter.proofs.results.result_attributes.Goals as goal

pub loop-place-preserved : goal.loop-place-preserved
loop-place-preserved c =
    let numbers = c.loop-place.numbers in
    let place = c.loop-place.place in
    let number = c.in_ok-numbers.field-0 in
    let counted = c.loop-place.invariant.counted in
    record {
      grows = Grows-trans c.args.context.now c.loop-place.context c.result_attribute.new.context
          c.loop-place.invariant.grows c.in_ok-numbers.ensures.grows;
      counted = length-set numbers place number ∙ counted;
      numbered = numbered_next c.loop-place.context c.result_attribute.new.context c.args.name.now
          c.all_kinds-kinds.result _ numbers _ place number c.in_ok-numbers.ensures.grows
          c.all_kinds-kinds.ensures (omega arith) refl
          c.in_ok-numbers.ensures.numbered c.loop-place.invariant.numbered;
    }
