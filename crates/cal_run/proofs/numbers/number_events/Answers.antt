use Rattle.std.proofs.Common.{List, take, ◌+◌, subst, sym}
use Rattle.std.specs.List.{AllZip}
use Rattle.cal_context.proofs.CallerLemmas.{Grows-trans}
use Rattle.cal_run.specs.Numbers.{EventsStand}
use Rattle.cal_run.specs.declared.numbers.EventNumbers.{EventNumbers}
use Rattle.cal_run.proofs.GainLemmas.{gains-more, gains-none}
use Rattle.cal_run.proofs.NumberLemmas.{events_more}
use Rattle.cal_run.proofs.numbers.number_events.Goals as goal

pub loop-attribute-preserved : goal.loop-attribute-preserved
loop-attribute-preserved c =
    let old = c.loop-attribute.invariant in
    let grows = c.number_events_of.ensures.grows in
    record {
      numbered = subst (λ (ns : List EventNumbers).
          AllZip (EventsStand c.number_events_of.new.context.attributes) ns
          (take (c.loop-attribute.attribute-index + 1) c.args.attributes.now))
          (sym {A = List EventNumbers} c.in_ok-push.ensures.items)
          (events_more grows _ _ _ _ _ old.numbered c.in_ok-number_events_of.ensures.numbered
          c.attribute-item.is c.loop-attribute-test.true);
      only = gains-more _ _ _ c.args.attributes.now _ c.loop-attribute.attribute-index
          c.attribute-item.is c.loop-attribute-test.true old.only
          c.in_ok-number_events_of.ensures.only;
      grows = Grows-trans _ _ _ old.grows grows;
    }
