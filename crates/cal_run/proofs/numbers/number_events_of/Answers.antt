use Rattle.std.proofs.Common.{List, [], ◌∷◌}
use Rattle.cal_run.proofs.GainLemmas.{gains-both}
use Rattle.cal_run.specs.Snapshots.{event_of}
use Rattle.cal_value.specs.declared.attribute.Attribute.{Attribute}
use Rattle.cal_words.specs.declared.op.OpCode.TheVariants as code
use Rattle.cal_run.proofs.numbers.number_events_of.Goals as goal

pub returns-clause-only : goal.returns-clause-only
returns-clause-only c =
    let t0 = c.args.context.now.attributes in
    let t1 = c.number_event.new.context.attributes in
    let t2 = c.number_event-2.new.context.attributes in
    let t3 = c.number_event-3.new.context.attributes in
    let begin : List Attribute = event_of code.Begin c.args.attribute.now ∷ [] in
    let end : List Attribute = event_of code.End c.args.attribute.now ∷ [] in
    let set : List Attribute = event_of code.Set c.args.attribute.now ∷ [] in
    gains-both t0 t2 t3 (event_of code.Begin c.args.attribute.now ∷ end) set
    (gains-both t0 t1 t2 begin end c.in_ok-begin.ensures.only c.in_ok-end.ensures.only)
    c.in_ok-set.ensures.only
