use Rattle.std.proofs.Common.{take}
use Rattle.std.specs.List.{AllZip, flat_map}
use Rattle.cal_context.specs.Tree.{Grows}
use Rattle.cal_run.specs.Numbers.{EventsStand}
use Rattle.cal_run.specs.RunAttributes.{GainsOnly, events_of}
use Rattle.cal_run.proofs.numbers.number_events.Given as goal

-- the events of the attributes so far have their numbers
abbrev pub invariant-loop-attribute : goal.invariant-loop-attribute
invariant-loop-attribute l = record {
  numbered : AllZip (EventsStand l.context.attributes) l.numbers.items (take l.attribute-index l.attributes);
  only : GainsOnly l.fn.context.attributes l.context.attributes
      (flat_map events_of (take l.attribute-index l.attributes));
  grows : Grows l.fn.context l.context;
}
