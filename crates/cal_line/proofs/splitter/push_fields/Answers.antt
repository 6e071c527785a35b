use Rattle.std.proofs.Common.{◌+◌, [], arith}
use Rattle.std.proofs.lemmas.Str.{IsCharBoundary-start, IsCharBoundary-after_ascii}
use Rattle.cal_line.proofs.LineSteps.{AreSpans-none, fields_of-start, fields_of-comma, ReadsFields-more}
use Rattle.cal_line.proofs.splitter.push_fields.Goals as goal

pub push_field-requires : goal.push_field-requires
push_field-requires c = IsCharBoundary-start c.args.line.now c.utf8.line

pub loop-place-init : goal.loop-place-init
loop-place-init c =
    ReadsFields-more c.args.line.now [] _ [] _ 0 c.in_ok-place.place (AreSpans-none c.args.line.now) (fields_of-start c.args.line.now)
    (rw (c.requires.fields, c.requires.values) at c.in_ok-place.ensures.found) c.in_ok-place.ensures.stop

pub push_field-requires-in-loop-place : goal.push_field-requires-in-loop-place
push_field-requires-in-loop-place c =
    let comma = c.loop-place.invariant.stop (omega arith) in
    IsCharBoundary-after_ascii c.args.line.now c.loop-place.place c.utf8.line (omega arith) (omega (arith, comma))

pub loop-place-preserved : goal.loop-place-preserved
loop-place-preserved c =
    ReadsFields-more c.args.line.now c.loop-place.values.items _ c.loop-place.fields.items _ (c.loop-place.place + 1) c.in_ok-place-2.place c.loop-place.invariant.spans
    (fields_of-comma c.args.line.now c.loop-place.values.items c.loop-place.fields.items c.loop-place.place c.loop-place.invariant (omega arith))
    c.in_ok-place-2.ensures.found c.in_ok-place-2.ensures.stop
