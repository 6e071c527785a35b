use Rattle.std.proofs.Common.{sym, subst, arith}
use Rattle.cal_run.specs.Lines.{attribute_of}
use Rattle.cal_run.specs.Numbers.{IsNumber}
use Rattle.cal_run.specs.Snapshots.{event_of}
use Rattle.cal_run.proofs.AddingLemmas.{events-at, events-long}
use Rattle.cal_run.proofs.services.event_number.Goals as goal

pub index-events-requires : goal.index-events-requires
index-events-requires c =
    omega (
      arith,
      events-long c.requires.named.0 c.args.script.now c.args.numbers.now
          c.requires.named.1 c.args.op.attr c.requires.places.attr,
    )

pub returns-in-Begin : goal.returns-in-Begin
returns-in-Begin c = λ attributes named.
    subst (λ code. IsNumber attributes c.index-events.result.now.begin
    (event_of code (attribute_of c.args.script.now c.args.op.attr))) (sym c.in-Begin.is)
    (events-at attributes c.args.script.now c.args.numbers.now named c.args.op.attr
    c.index-events.result.now c.requires.places.attr c.index-events.ensures).begin

pub returns-in-End : goal.returns-in-End
returns-in-End c = λ attributes named.
    subst (λ code. IsNumber attributes c.index-events.result.now.end
    (event_of code (attribute_of c.args.script.now c.args.op.attr))) (sym c.in-End.is)
    (events-at attributes c.args.script.now c.args.numbers.now named c.args.op.attr
    c.index-events.result.now c.requires.places.attr c.index-events.ensures).end

pub returns-in-Set : goal.returns-in-Set
returns-in-Set c = λ attributes named.
    subst (λ code. IsNumber attributes c.index-events.result.now.set
    (event_of code (attribute_of c.args.script.now c.args.op.attr))) (sym c.in-Set.is)
    (events-at attributes c.args.script.now c.args.numbers.now named c.args.op.attr
    c.index-events.result.now c.requires.places.attr c.index-events.ensures).set
