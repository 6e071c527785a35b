use Rattle.std.proofs.Common.{List, take, ◌+◌, ◌∙◌, subst, sym}
use Rattle.cal_context.proofs.CallerLemmas.{Grows-trans}
use Rattle.cal_context.specs.declared.numbers.ValueNumber.{ValueNumber}
use Rattle.cal_run.specs.Numbers.{ValuesStand}
use Rattle.cal_run.proofs.NumberLemmas.{values_more}
use Rattle.cal_run.proofs.numbers.number_kept.Goals as goal

pub loop-value-preserved : goal.loop-value-preserved
loop-value-preserved c =
    let old = c.loop-value.invariant in
    let grows = c.value.ensures.grows in
    record {
      numbered =
          subst (λ (ns : List ValueNumber). ValuesStand c.value.new.self ns
          (take (c.loop-value.value-index + 1) c.args.values.now))
          (sym {A = List ValueNumber} c.in_ok-push.ensures.items)
          (values_more grows _ _ _ _ _ old.numbered c.in_ok-value.ensures.added c.value-item.is
          c.loop-value-test.true);
      attributes = c.in_ok-value.ensures.added.attributes ∙ old.attributes;
      grows = Grows-trans _ _ _ old.grows grows;
    }
