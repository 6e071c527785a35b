use Rattle.std.proofs.Common.{◌∙◌, List, subst}
use Rattle.std.specs.List.{AllZip, flat_map}
use Rattle.cal_board.proofs.StandingLemmas.{AllZip-weaken}
use Rattle.cal_context.proofs.CallerLemmas.{Grows-trans}
use Rattle.cal_context.specs.Lists.{IsFront}
use Rattle.cal_context.specs.Tree.{Grows}
use Rattle.cal_run.proofs.GainLemmas.{gains-run, grows-six}
use Rattle.cal_run.proofs.NumberLemmas.{EventsStand-Grows, IsNumber-Grows, ValuesStand-Grows}
use Rattle.cal_run.specs.Numbers.{EventsStand, ValuesStand}
use Rattle.cal_run.specs.RunAttributes.{GainsOnly, events_of}
use Rattle.cal_value.specs.declared.attribute.Attribute.{Attribute}
use Rattle.cal_value.specs.declared.variant.Variant.{Variant}
use Rattle.cal_run.proofs.numbers.Numbers.of_placed.Goals as goal

pub returns-clause-numbered : goal.returns-clause-numbered
returns-clause-numbered c =
    let t0 = c.args.context.now in
    let t1 = c.number_values.new.context in
    let t2 = c.number_events.new.context in
    let t3 = c.number_uint.new.context in
    let t4 = c.number_uint-2.new.context in
    let t5 = c.number_uint-3.new.context in
    let t6 = c.number_uint-4.new.context in
    let g56 : Grows t5 t6 = c.number_uint-4.ensures.grows in
    let g46 : Grows t4 t6 = Grows-trans t4 t5 t6 c.number_uint-3.ensures.grows g56 in
    let g36 : Grows t3 t6 = Grows-trans t3 t4 t6 c.number_uint-2.ensures.grows g46 in
    let g26 : Grows t2 t6 = Grows-trans t2 t3 t6 c.number_uint.ensures.grows g36 in
    let g16 : Grows t1 t6 = Grows-trans t1 t2 t6 c.number_events.ensures.grows g26 in
    let g06 : Grows t0 t6 = Grows-trans t0 t1 t6 c.number_values.ensures.grows g16 in
    let script = c.args.script.now in
    record {
      named = record {
        front = subst (λ (xs : List Attribute). IsFront xs t6.attributes) c.requires
            g06.attributes;
        events = subst (λ (xs : List Attribute). AllZip (EventsStand t6.attributes)
            c.in_ok-events.events.items xs) c.as_slice.ensures
            (AllZip-weaken (EventsStand t2.attributes) (EventsStand t6.attributes)
            (EventsStand-Grows g26) c.in_ok-events.events.items c.as_slice.result.now
            c.in_ok-events.ensures.numbered);
        duration = IsNumber-Grows g36 c.in_ok-duration.duration _
            c.in_ok-duration.ensures.numbered;
        inclusive = IsNumber-Grows g46 c.in_ok-inclusive.inclusive _
            c.in_ok-inclusive.ensures.numbered;
        depth = IsNumber-Grows g56 c.in_ok-depth.depth _ c.in_ok-depth.ensures.numbered;
        count = c.in_ok-count.ensures.numbered;
      };
      values = ValuesStand-Grows g16 c.in_ok-values.values.items script.values
          c.in_ok-values.ensures.numbered;
    }

pub returns-clause-only : goal.returns-clause-only
returns-clause-only c =
    let t1 = c.number_values.new.context.attributes in
    let script = c.args.script.now in
    gains-run script t1 c.number_events.new.context.attributes c.number_uint.new.context.attributes
    c.number_uint-2.new.context.attributes c.number_uint-3.new.context.attributes
    c.number_uint-4.new.context.attributes (c.in_ok-values.ensures.attributes ∙ c.requires)
    (subst (λ (xs : List Attribute). GainsOnly t1 c.number_events.new.context.attributes
    (flat_map events_of xs)) c.as_slice.ensures c.in_ok-events.ensures.only)
    c.in_ok-duration.ensures.only c.in_ok-inclusive.ensures.only c.in_ok-depth.ensures.only
    c.in_ok-count.ensures.only

pub returns-in_err-count-clause-grows : goal.returns-in_err-count-clause-grows
returns-in_err-count-clause-grows c = grows-six c.args.context.now c.number_values.new.context
    c.number_events.new.context c.number_uint.new.context c.number_uint-2.new.context
    c.number_uint-3.new.context c.number_uint-4.new.context c.number_values.ensures.grows
    c.number_events.ensures.grows c.number_uint.ensures.grows c.number_uint-2.ensures.grows
    c.number_uint-3.ensures.grows c.number_uint-4.ensures.grows

pub returns-clause-grows : goal.returns-clause-grows
returns-clause-grows c = grows-six c.args.context.now c.number_values.new.context
    c.number_events.new.context c.number_uint.new.context c.number_uint-2.new.context
    c.number_uint-3.new.context c.number_uint-4.new.context c.number_values.ensures.grows
    c.number_events.ensures.grows c.number_uint.ensures.grows c.number_uint-2.ensures.grows
    c.number_uint-3.ensures.grows c.number_uint-4.ensures.grows
